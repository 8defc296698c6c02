use Rattle.std.proofs.Common.{◌≡◌, List, subst, sym}
use Rattle.jesc_logic.specs.Terms.{Term, term_at}
use Rattle.jesc_logic.specs.Tables.{is_open}
use Rattle.jesc_logic.proofs.Growing.{marked_at}
use Rattle.jesc_logic.proofs.terms.Terms.is_open.Goals as goal

pub returns-in-Some-clause-mark : goal.returns-in-Some-clause-mark
returns-in-Some-clause-mark c =
    subst (λ (terms : List Term). c.in-Some.open.now ≡ is_open (term_at terms c.args.id)) c.self.view_is
    (marked_at c.self.inside.nodes.entries c.self.invariant c.args.id.0 _ (sym c.in-Some.ensures.entry))
