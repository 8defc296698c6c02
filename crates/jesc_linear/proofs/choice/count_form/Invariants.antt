use Rattle.std.proofs.Common.{◌≡◌, ◌≤◌, ◌^◌, ℕ, vec_len, take}
use Rattle.jesc_linear.specs.Forms.{coefficient_of}
use Rattle.jesc_linear.specs.Counts.{count_at, more}
use Rattle.jesc_linear.proofs.choice.count_form.Given as goal

abbrev pub invariant-loop-part : goal.invariant-loop-part
invariant-loop-part l = record {
  counted : (t : ℕ) → count_at l.counts.items t ≡ more (count_at l.fn.counts.items t) (coefficient_of (take l.part-index l.form) t);
  few : vec_len l.fn.counts ≤ 2 ^ 32 → vec_len l.counts ≤ 2 ^ 32;
}
