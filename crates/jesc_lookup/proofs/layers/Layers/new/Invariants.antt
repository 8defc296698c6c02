use Rattle.std.proofs.Common.{take}
use Rattle.std.specs.List.{Contains}
use Rattle.jesc_lookup.specs.Layers.{AreLayersOf}
use Rattle.jesc_lookup.proofs.layers.Layers.new.Given as goal

abbrev pub invariant-loop-class : goal.invariant-loop-class
invariant-loop-class l = AreLayersOf (Contains (take l.class-index l.order)) l.graph l.keys l.rows l.layers.versions l.layers.of.items
