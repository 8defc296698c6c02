use Rattle.std.specs.Prelude.{ℕ, ℤ, pos, ◌≤ℤ◌, List, All, slice_get, unwrap_or}
use Rattle.jesc_linear.specs.declared.rows.Row.{Row}
use Rattle.jesc_linear.specs.Forms.{value}

-- with these whole numbers for the terms, the row's sum is at most its bound
abbrev pub Meets : (ℕ → ℤ) → Row → Type 0
Meets v row = value v row.form ≤ℤ row.bound

abbrev pub MeetsAll : (ℕ → ℤ) → List Row → Type 0
MeetsAll v rows = All (Meets v) rows

-- no whole numbers meet all the rows
abbrev pub HaveNoSolution : List Row → Type 0
HaveNoSolution rows = (v : ℕ → ℤ) → All (Meets v) rows → ⊥

-- what a point gives a term: 0 past the point's end
abbrev pub value_at : List ℤ → ℕ → ℤ
value_at point term = unwrap_or (slice_get point term) (pos 0)
