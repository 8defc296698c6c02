-- Words for the sum of two forms, one term after the other.
use Rattle.std.specs.Prelude.{◌==◌, ℕ, ◌≤◌, ◌≡◌, if◌then◌else◌, ℤ, pos, [], ◌∷◌, ◌++◌}
use Rattle.std.specs.Ordering.{int_eq}
use Rattle.jesc_linear.specs.Forms.{Form}

-- the coefficient of the first part, if it is of this term, and else 0
abbrev pub head_at : Form → ℕ → ℤ
head_at [] term = pos 0
head_at (part ∷ rest) term = if part.1 == term then part.0 else pos 0

-- what is behind the first part, if it is of this term, and else the form
abbrev pub past : Form → ℕ → Form
past [] term = []
past (part ∷ rest) term = if part.1 == term then rest else part ∷ rest

-- the form's first term, if it has one, isn't below this one
abbrev pub StartsFrom : ℕ → Form → Type 0
StartsFrom term [] = Unit {0}
StartsFrom term (part ∷ rest) = term ≤ part.1

-- the term is the first of the form
abbrev pub IsFirst : ℕ → Form → Type 0
IsFirst term [] = ⊥
IsFirst term (part ∷ rest) = term ≡ part.1

-- the form and behind it a part, unless the coefficient is 0
abbrev pub with_part : Form → ℤ → ℕ → Form
with_part form coefficient term = if int_eq coefficient (pos 0) then form else form ++ (coefficient, term) ∷ []
