use Rattle.std.proofs.Common.{◌≡◌, ◌-◌, ◌++◌}
use Rattle.jesc_linear.specs.Elimination.{Values, listed, end_of_all}
use Rattle.jesc_linear.specs.Tables.{HasValues}
use Rattle.jesc_linear.proofs.point.point_of.Given as goal

abbrev pub invariant-loop-term : goal.invariant-loop-term
invariant-loop-term l = (found : Values) → HasValues l.values found
    → l.point ++ listed found l.term (end_of_all l.rows - l.term) ≡ listed found 0 (end_of_all l.rows)
