use Rattle.std.proofs.Common.{◌++◌, map, take}
use Rattle.jesc_tree.specs.Programs.{predefined}
use Rattle.jesc_classes.specs.Sources.{HasFirsts, seen}
use Rattle.jesc_classes.proofs.index.names_of.Given as goal

abbrev pub invariant-loop-i : goal.invariant-loop-i
invariant-loop-i l = HasFirsts l.names (map (λ p. p.0) predefined ++ take l.i (map (λ s. s.tree.name.text) (map seen l.list)))
