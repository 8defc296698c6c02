use Rattle.std.proofs.Common.{◌+◌, length}
use Rattle.jesc_clauses.proofs.Merging.{IsMerging}
use Rattle.jesc_clauses.proofs.merge.together.Given as goal

abbrev pub invariant-loop-term : goal.invariant-loop-term
invariant-loop-term l = IsMerging l.fn.limit l.fn.k l.initial.first l.fn.m l.initial.second l.form l.first l.second

abbrev pub decreases-loop-term : goal.decreases-loop-term
decreases-loop-term l = length l.first + length l.second
