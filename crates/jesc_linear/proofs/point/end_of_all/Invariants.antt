use Rattle.std.proofs.Common.{◌≡◌, max, drop}
use Rattle.jesc_linear.specs.Elimination.{end_of_all}
use Rattle.jesc_linear.proofs.point.end_of_all.Given as goal

abbrev pub invariant-loop-row : goal.invariant-loop-row
invariant-loop-row l = end_of_all l.rows ≡ max l.end (end_of_all (drop l.row-index l.rows))
