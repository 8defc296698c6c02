use Rattle.std.proofs.Common.{take}
use Rattle.std.specs.List.{flat_map}
use Rattle.jesc_logic.specs.Terms.{term_at}
use Rattle.jesc_arithmetic.specs.Occurrences.{terms_within}
use Rattle.jesc_arithmetic.specs.Walks.{HasWalked}
use Rattle.jesc_arithmetic.proofs.walk.Walk.+walk_term.Given as goal

abbrev pub decreases-walk_term : goal.decreases-walk_term
decreases-walk_term l = l.id.0

abbrev pub invariant-loop-part : goal.invariant-loop-part
invariant-loop-part l = HasWalked l.terms l.initial.self l.self (flat_map (λ i. terms_within (term_at l.terms i)) (take l.part-index l.parts))
