use Rattle.std.proofs.Common.{◌≡◌, drop}
use Rattle.jesc_linear.specs.Elimination as spec
use Rattle.jesc_linear.specs.Elimination.{Values}
use Rattle.jesc_linear.specs.Tables.{HasValues, entries_of}
use Rattle.jesc_linear.specs.Limits.{limits_in}
use Rattle.jesc_linear.proofs.back.limits_of.Given as goal

abbrev pub invariant-loop-slot : goal.invariant-loop-slot
invariant-loop-slot l = (found : Values) → HasValues l.values found
    → spec.limits_of found l.term (entries_of l.log l.held) spec.no_limits ≡ spec.limits_of found l.term (entries_of l.log (drop l.slot-index l.held)) (limits_in l.log l.limits)
