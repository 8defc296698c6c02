use Rattle.std.proofs.Common.{◌-◌, length}
use Rattle.jesc_classes.proofs.Marked.{Walk, Visit}
use Rattle.jesc_classes.proofs.cycle.reaches.Given as goal

abbrev pub invariant-loop-k : goal.invariant-loop-k
invariant-loop-k l = Walk l.graph l.first l.k l.met l.marks.items

abbrev pub invariant-loop-above : goal.invariant-loop-above
invariant-loop-above l = Visit l.graph l.first l.k l.class l.above-index l.above-items l.met l.marks.items

abbrev pub decreases-loop-k : goal.decreases-loop-k
decreases-loop-k l = length l.graph - l.k
