use Rattle.std.proofs.Common.{◌<◌, ◌≤◌, ◌^◌, take}
use Rattle.jesc_linear.proofs.Divisors.{IsDivisor}
use Rattle.jesc_linear.proofs.divisor.divisor_of.Given as goal

abbrev pub invariant-loop-part : goal.invariant-loop-part
invariant-loop-part l = record {
  divisor : IsDivisor (take l.part-index l.form) l.divisor;
  positive : 0 < l.part-index → 0 < l.divisor;
  small : l.divisor ≤ 2 ^ 63;
}
