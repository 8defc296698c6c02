-- The sum of an upper and a lower row in which a variable cancels.
use Rattle.std.specs.Prelude.{ℕ, zero, suc, max, if◌then◌else◌, ◌/◌, ℤ, pos, ◌+ℤ◌, ◌*ℤ◌, [], ◌∷◌, unsigned_abs}
use Rattle.std.specs.Ordering.{int_eq}
use Rattle.jesc_linear.specs.declared.rows.Row.{Row}
use Rattle.jesc_linear.specs.Forms.{Form, coefficient_of}
use Rattle.jesc_linear.specs.Divisors.{common_divisor}

-- the least number above all terms of the form
abbrev pub end_of : Form → ℕ
end_of [] = 0
end_of (part ∷ rest) = max (suc part.1) (end_of rest)

-- the form with these coefficients at `count` terms from `low` on
abbrev pub form_of : (ℕ → ℤ) → ℕ → ℕ → Form
form_of coefficient low zero = []
form_of coefficient low (suc count) = if int_eq (coefficient low) (pos 0) then form_of coefficient (suc low) count else (coefficient low, low) ∷ form_of coefficient (suc low) count

-- a times the first form and b times the second
abbrev pub added : ℤ → Form → ℤ → Form → Form
added a first b second = form_of (λ term. a *ℤ coefficient_of first term +ℤ b *ℤ coefficient_of second term) 0 (max (end_of first) (end_of second))

-- the least multiplier of a row with coefficient `own` that cancels `other`, in a row that has a multiplier too
abbrev pub multiplier : ℤ → ℤ → ℕ
multiplier own other = unsigned_abs other / common_divisor (unsigned_abs own ∷ unsigned_abs other ∷ [])

-- a times the first row and b times the second
abbrev pub combined : ℤ → Row → ℤ → Row → Row
combined a first b second = record {
  form = added a first.form b second.form;
  bound = a *ℤ first.bound +ℤ b *ℤ second.bound;
}

-- the sum of the two rows with the least positive multipliers that cancel the term
abbrev pub sum_of : ℕ → Row → Row → Row
sum_of term upper lower = combined (pos (multiplier (coefficient_of upper.form term) (coefficient_of lower.form term))) upper
    (pos (multiplier (coefficient_of lower.form term) (coefficient_of upper.form term))) lower
