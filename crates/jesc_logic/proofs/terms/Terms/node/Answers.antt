use Rattle.std.proofs.Common.{◌≡◌, List, slice_get, Some, subst, sym}
use Rattle.jesc_logic.specs.Terms.{Term, node_term}
use Rattle.jesc_logic.proofs.terms.Terms.node.Goals as goal

pub returns-in-Some-clause-term : goal.returns-in-Some-clause-term
returns-in-Some-clause-term c =
    subst (λ (terms : List Term). slice_get terms c.args.id.0 ≡ Some (node_term terms c.in-Some.node.now)) c.self.view_is
    (c.self.invariant.spelled c.args.id.0 (c.in-Some.node.now, c.in-Some.field-0-1.now) (sym c.in-Some.ensures.entry))
