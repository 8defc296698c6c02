use Rattle.std.proofs.Common.{map, take}
use Rattle.jesc_tree.specs.Programs.{predefined}
use Rattle.jesc_classes.specs.Sources.{HasFirsts}
use Rattle.jesc_classes.proofs.index.predefined_names.Given as goal

abbrev pub invariant-loop-number : goal.invariant-loop-number
invariant-loop-number l = HasFirsts l.names (take l.number (map (λ p. p.0) predefined))
