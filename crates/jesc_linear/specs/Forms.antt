use Rattle.std.specs.Prelude.{◌≢◌, ℕ, ◌+◌, ◌≤◌, ◌==◌, if◌then◌else◌, ℤ, pos, ◌+ℤ◌, ◌*ℤ◌, List, [], ◌∷◌, All}

-- a sum of products, each of a whole coefficient and the term of a number
abbrev pub Form : Type 0
Form = List (ℤ × ℕ)

-- what the sum is where v gives each term a whole number
abbrev pub value : (ℕ → ℤ) → Form → ℤ
value v [] = pos 0
value v (part ∷ rest) = part.0 *ℤ v part.1 +ℤ value v rest

-- the coefficient of a term: 0 where the form lacks it
abbrev pub coefficient_of : Form → ℕ → ℤ
coefficient_of [] term = pos 0
coefficient_of (part ∷ rest) term = if part.1 == term then part.0 else coefficient_of rest term

-- the terms rise strictly, and none is below `low`
abbrev pub RisesFrom : ℕ → Form → Type 0
RisesFrom low [] = Unit {0}
RisesFrom low (part ∷ rest) = (low ≤ part.1) × RisesFrom (part.1 + 1) rest

abbrev pub IsNonzero : ℤ × ℕ → Type 0
IsNonzero part = part.0 ≢ pos 0

-- the terms rise strictly and no coefficient is 0
pub record IsForm (form : Form) : Type 0 where
  pub rises : RisesFrom 0 form
  pub nonzero : All IsNonzero form
