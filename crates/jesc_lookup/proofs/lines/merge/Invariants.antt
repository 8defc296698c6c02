use Rattle.std.proofs.Common.{take}
use Rattle.jesc_lookup.specs.LineSets.{Merges}
use Rattle.jesc_lookup.proofs.lines.merge.Given as goal

abbrev pub invariant-loop-class : goal.invariant-loop-class
invariant-loop-class l = Merges l.fn.versions l.fn.line l.versions l.line (take l.class-index l.classes)
