use Rattle.std.proofs.Common.{◌≡◌, [], ◌∷◌, map, take}
use Rattle.jesc_classes.proofs.graph.predefined_supertypes.Given as goal

abbrev pub invariant-loop-superclass : goal.invariant-loop-superclass
invariant-loop-superclass l = l.graph ≡ [] ∷ map (λ class. class ∷ []) (take l.superclass-index (0 ∷ 1 ∷ 1 ∷ 2 ∷ 4 ∷ 4 ∷ []))
