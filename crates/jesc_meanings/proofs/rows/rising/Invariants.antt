use Rattle.std.proofs.Common.{◌≡◌, ◌<◌, ℕ, length, get_or}
use Rattle.jesc_meanings.proofs.rows.rising.Given as goal

abbrev pub invariant-loop-i : goal.invariant-loop-i
invariant-loop-i l = (length l.list ≡ l.i) × ((j : ℕ) → j < l.i → get_or l.list j 0 ≡ j)
