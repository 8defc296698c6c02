use Rattle.std.proofs.Common.{◌≡◌, ◌++◌, map, take}
use Rattle.jesc_tree.specs.Programs.{predefined}
use Rattle.jesc_classes.specs.laws.Graphs.{row}
use Rattle.jesc_classes.specs.Sources.{seen}
use Rattle.jesc_classes.proofs.graph.supertypes.Given as goal

abbrev pub invariant-loop-class : goal.invariant-loop-class
invariant-loop-class l = l.graph ≡ map (λ p. p.1) predefined ++ map (row l.classes) (map seen (take l.class-index l.class-items))
