use Rattle.std.proofs.Common.{IfOk, length, subst, sym, ap, ◌∙◌}
use Rattle.jesc_logic.specs.Terms.{Term, StandsFor, node_term, IsBelow}
use Rattle.jesc_logic.proofs.Arguments.{applied_to, below_over}
use Rattle.jesc_logic.proofs.terms.Terms.app.Goals as goal

pub make-requires : goal.make-requires
make-requires c = subst (IsBelow (length c.args.self.now)) (sym c.node_of.ensures) (below_over c.args.self.now c.args.symbol c.args.args.now c.requires.few c.requires.args)

pub returns-clause-term : goal.returns-clause-term
returns-clause-term c =
    subst (λ (t : Term). IfOk c.make.result (λ id. StandsFor c.make.new.self id t))
    (ap (node_term c.args.self.now) c.node_of.ensures ∙ applied_to c.args.self.now c.args.symbol c.args.args.now c.requires.few) c.make.ensures.term
