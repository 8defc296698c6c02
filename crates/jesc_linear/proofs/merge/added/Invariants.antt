use Rattle.std.proofs.Common.{◌+◌, length}
use Rattle.jesc_linear.proofs.Merging.{IsMerging}
use Rattle.jesc_linear.proofs.merge.added.Given as goal

abbrev pub invariant-loop-term : goal.invariant-loop-term
invariant-loop-term l = IsMerging l.fn.a l.initial.first l.fn.b l.initial.second l.sum.items l.first l.second

abbrev pub decreases-loop-term : goal.decreases-loop-term
decreases-loop-term l = length l.first + length l.second
