use Rattle.std.proofs.Common.{◌≡◌, ◌<◌, ℕ, None, [], length, get_or}
use Rattle.jesc_meanings.specs.Meanings.{own_constructor}
use Rattle.jesc_meanings.proofs.constructors.constructor_rows.Given as goal

abbrev pub invariant-loop-class : goal.invariant-loop-class
invariant-loop-class l = (length l.rows.items ≡ l.class-index) × ((k : ℕ) → k < l.class-index → (count : ℕ) → get_or (get_or l.rows.items k []) count None ≡ own_constructor l.classes l.methods count k)
