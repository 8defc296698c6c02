-- Sums of multiples of forms, and numbers that are too large.
use Rattle.std.specs.Prelude.{◌≡◌, ◌==◌, ℕ, zero, suc, ◌<◌, ◌≤◌, ◌^◌, if◌then◌else◌, ℤ, pos, negsuc, ◌+ℤ◌, ◌*ℤ◌, unsigned_abs, [], ◌∷◌, ◌++◌, All, Result, Ok, Err}
use Rattle.jesc_linear.specs.Forms.{Form, IsForm, value}
use Rattle.jesc_clauses.specs.declared.error.ClauseError.{ClauseError}
use Rattle.jesc_clauses.specs.declared.error.ClauseError.TheVariants.{Wide, OutOfMemory}

-- the coefficient is at most the limit in size
abbrev pub IsWithin : ℕ → ℤ × ℕ → Type 0
IsWithin limit part = unsigned_abs part.0 ≤ limit

-- the terms rise, no coefficient is 0, and none passes the limit in size
pub record IsSized (limit : ℕ) (form : Form) : Type 0 where
  pub sorted : IsForm form
  pub within : All (IsWithin limit) form

-- gives the term i the number 1, and any other 0
abbrev pub only_at : ℕ → ℕ → ℤ
only_at i j = if i == j then pos 1 else pos 0

-- k times the first and m times the second together, where v gives each term a whole number
abbrev pub multiples : (ℕ → ℤ) → ℤ → Form → ℤ → Form → ℤ
multiples v k first m second = k *ℤ value v first +ℤ m *ℤ value v second

-- the form is k times the first and m times the second together
pub record IsTogether (limit : ℕ) (k : ℤ) (first : Form) (m : ℤ) (second form : Form) : Type 0 where
  pub sized : IsSized limit form
  pub there : (n : ℕ) → All (λ part. part.1 < n) first → All (λ part. part.1 < n) second → All (λ part. part.1 < n) form
  pub worth : (v : ℕ → ℤ) → value v form ≡ multiples v k first m second

-- what a wide answer says of its number
abbrev pub OnWide : {T : Type 0} → (ℤ → Type 0) → Result T ClauseError → Type 0
OnWide P (Ok x) = Unit {0}
OnWide P (Err (Wide n)) = P n
OnWide P (Err OutOfMemory) = Unit {0}

-- n is a coefficient of k times the first and m times the second together, and passes the limit in size
pub record IsWideTogether (limit : ℕ) (k : ℤ) (first : Form) (m : ℤ) (second : Form) (n : ℤ) : Type 0 where
  pub term : ℕ
  pub is : n ≡ multiples (only_at term) k first m second
  pub passes : limit < unsigned_abs n
  pub small : unsigned_abs n ≤ 2 ^ 126

-- the coefficient of the first part, if it is of this term, and else 0
abbrev pub head_at : Form → ℕ → ℤ
head_at [] term = pos 0
head_at (part ∷ rest) term = if part.1 == term then part.0 else pos 0

-- what is behind the first part, if it is of this term, and else the form
abbrev pub past : Form → ℕ → Form
past [] term = []
past (part ∷ rest) term = if part.1 == term then rest else part ∷ rest

-- the form's first term, if it has one, isn't below this one
abbrev pub StartsFrom : ℕ → Form → Type 0
StartsFrom term [] = Unit {0}
StartsFrom term (part ∷ rest) = term ≤ part.1

-- the term is the first of the form
abbrev pub IsFirst : ℕ → Form → Type 0
IsFirst term [] = ⊥
IsFirst term (part ∷ rest) = term ≡ part.1

-- the form and behind it a part, unless the coefficient is 0
abbrev pub with_part : Form → ℤ → ℕ → Form
with_part form (pos zero) term = form
with_part form (pos (suc n)) term = form ++ (pos (suc n), term) ∷ []
with_part form (negsuc n) term = form ++ (negsuc n, term) ∷ []
