use Rattle.jesc_lookup.specs.LineSets.{gaps, map_in}
use Rattle.jesc_lookup.proofs.LineClimbs.{Climbing}
use Rattle.jesc_lookup.proofs.lines.climb.Given as goal

abbrev pub invariant-loop-above : goal.invariant-loop-above
invariant-loop-above l = Climbing l.graph l.fn.versions l.fn.line l.class l.versions l.line l.next

abbrev pub decreases-loop-above : goal.decreases-loop-above
decreases-loop-above l = gaps (map_in l.versions l.line)
