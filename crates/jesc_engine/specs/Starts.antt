-- Where the lines of a text start, as a table in which a search finds the line and the column of an offset.
use Rattle.std.specs.Prelude.{◌≡◌, ℕ, ◌+◌, ◌-◌, ◌<◌, ◌≤◌, List, length, slice_index}
use Rattle.jesc_text.specs.Places.{line_at, column_at}

-- The starts of the lines up to an offset.
pub record StartsUpTo (bytes : List ℕ) (end : ℕ) (starts : List ℕ) : Type 0 where
  pub count : length starts ≡ line_at bytes end
  pub later : (offset k : ℕ) → offset ≤ end → k < length starts → slice_index starts k ≤ offset → k < line_at bytes offset
  pub earlier : (offset k : ℕ) → offset ≤ end → k < line_at bytes offset → slice_index starts k ≤ offset
  pub column : (offset : ℕ) → offset ≤ end → slice_index starts (line_at bytes offset - 1) + column_at bytes offset ≡ offset + 1
  pub within : (offset : ℕ) → offset ≤ end → line_at bytes offset ≤ length starts

abbrev pub AreStarts : List ℕ → List ℕ → Type 0
AreStarts bytes starts = StartsUpTo bytes (length bytes) starts
