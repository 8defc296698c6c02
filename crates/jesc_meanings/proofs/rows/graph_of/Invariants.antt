use Rattle.std.proofs.Common.{◌≡◌, map, take}
use Rattle.jesc_tree.specs.Subtypes.{supertypes}
use Rattle.jesc_meanings.proofs.rows.graph_of.Given as goal

abbrev pub invariant-loop-class : goal.invariant-loop-class
invariant-loop-class l = l.graph ≡ map supertypes (take l.class-index l.classes)
