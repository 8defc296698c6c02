use Rattle.std.proofs.Common.{◌≡◌, ◌≤◌, ◌^◌, ℕ, vec_len}
use Rattle.jesc_linear.specs.Counts.{count_at}
use Rattle.jesc_linear.proofs.choice.reach.Given as goal

abbrev pub invariant-loop-place : goal.invariant-loop-place
invariant-loop-place l = record {
  same : (t : ℕ) → count_at l.counts.items t ≡ count_at l.fn.counts.items t;
  len : l._place ≡ vec_len l.counts;
  few : vec_len l.fn.counts ≤ 2 ^ 32 → vec_len l.counts ≤ 2 ^ 32;
}
