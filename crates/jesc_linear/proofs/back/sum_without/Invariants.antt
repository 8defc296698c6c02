use Rattle.std.proofs.Common.{◌≡◌, ◌≤◌, ◌^◌, pos, drop}
use Rattle.std.specs.Prelude.{unsigned_abs}
use Rattle.jesc_linear.specs.Elimination as spec
use Rattle.jesc_linear.specs.Elimination.{Values}
use Rattle.jesc_linear.specs.Tables.{HasValues}
use Rattle.jesc_linear.proofs.back.sum_without.Given as goal

abbrev pub invariant-loop-part : goal.invariant-loop-part
invariant-loop-part l = record {
  size : unsigned_abs l.sum ≤ 2 ^ 125;
  course : (found : Values) → HasValues l.values found
      → spec.sum_without found l.term (pos 0) l.form ≡ spec.sum_without found l.term l.sum (drop l.part-index l.form);
}
