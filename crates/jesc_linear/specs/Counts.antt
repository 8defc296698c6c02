-- How many rows of a table have each term, and which term is in the fewest pairs by these counts.
use Rattle.std.specs.Prelude.{◌≡◌, ℕ, ◌+◌, ◌*◌, ◌<◌, ◌≤◌, ◌^◌, ◌⊎◌, if◌then◌else◌, ℤ, pos, int_lt, Option, List, length, filter, slice_index_or, MatchOption}
use Rattle.jesc_linear.specs.declared.choice.Count.{Count}
use Rattle.jesc_linear.specs.declared.choice.Choice.{Choice}
use Rattle.jesc_linear.specs.Courses.{Entry}
use Rattle.jesc_linear.specs.Elimination.{is_upper, is_lower}

abbrev pub no_rows : Count
no_rows = record { uppers = 0; lowers = 0 }

-- the counts of a term: none past the end
abbrev pub count_at : List Count → ℕ → Count
count_at counts term = slice_index_or counts term no_rows

-- with a row that has this coefficient at the term
abbrev pub more : Count → ℤ → Count
more count coefficient = record {
  uppers = count.uppers + (if int_lt (pos 0) coefficient then 1 else 0);
  lowers = count.lowers + (if int_lt coefficient (pos 0) then 1 else 0);
}

-- these are the counts of the table's rows
pub record HasCounts (entries : List Entry) (counts : List Count) : Type 0 where
  pub few : length counts ≤ 2 ^ 32
  pub uppers : (term : ℕ) → (count_at counts term).uppers ≡ length (filter (is_upper term) entries)
  pub lowers : (term : ℕ) → (count_at counts term).lowers ≡ length (filter (is_lower term) entries)

abbrev pub rows_of : Count → ℕ
rows_of count = count.uppers + count.lowers

abbrev pub pairs_in : Count → ℕ
pairs_in count = count.uppers * count.lowers

-- of the terms below the end that have rows this one has the fewest pairs, at a tie it is the smallest
pub record IsLeast (counts : List Count) (end : ℕ) (choice : Choice) : Type 0 where
  pub there : 0 < rows_of (count_at counts choice.term)
  pub below : choice.term < end
  pub pairs : choice.pairs ≡ pairs_in (count_at counts choice.term)
  pub fewest : (other : ℕ) → other < end → 0 < rows_of (count_at counts other)
      → (choice.pairs < pairs_in (count_at counts other)) ⊎ ((choice.pairs ≡ pairs_in (count_at counts other)) × (choice.term ≤ other))

-- none of them has rows, or this is the least
abbrev pub IsBest : List Count → ℕ → Option Choice → Type 0
IsBest counts end best = MatchOption best ((term : ℕ) → term < end → rows_of (count_at counts term) ≡ 0) (IsLeast counts end)
