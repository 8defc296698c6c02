use Rattle.std.specs.Prelude.{◌≡◌, ℕ, ◌≤◌, ◌^◌, ℤ, pos, ◌+ℤ◌, ◌*ℤ◌, ◌≤ℤ◌, ◌<ℤ◌, List, [], ◌∷◌, ◌++◌, All, Option, Some, None, slice_get, unsigned_abs}
use Rattle.std.specs.Int.{int_div_euclid}
use Rattle.jesc_linear.specs.declared.rows.Row.{Row}
use Rattle.jesc_linear.specs.declared.rows.LinStep.{LinStep}
use Rattle.jesc_linear.specs.Forms.{Form, coefficient_of, IsForm}

abbrev pub IsNarrow : ℤ × ℕ → Type 0
IsNarrow part = unsigned_abs part.0 ≤ 2 ^ 31

-- a row that steps may use and make
pub record IsRow (row : Row) : Type 0 where
  pub form : IsForm row.form
  pub narrow : All IsNarrow row.form
  pub bound : unsigned_abs row.bound ≤ 2 ^ 94

-- the multipliers and the divisor are in range
pub record InRange (step : LinStep) : Type 0 where
  pub a_low : pos 1 ≤ℤ step.a
  pub a_high : step.a ≤ℤ pos (2 ^ 31)
  pub b_low : pos 0 ≤ℤ step.b
  pub b_high : step.b ≤ℤ pos (2 ^ 31)
  pub d_low : pos 1 ≤ℤ step.d
  pub d_high : step.d ≤ℤ pos (2 ^ 63)

-- d times the form h is a times f and b times g, term by term
abbrev pub Combines : ℤ → Form → ℤ → Form → ℤ → Form → Type 0
Combines a f b g d h = (term : ℕ) → d *ℤ coefficient_of h term ≡ a *ℤ coefficient_of f term +ℤ b *ℤ coefficient_of g term

-- the step's row is (a * first + b * second) / d, its bound rounded down
pub record Derives (first second : Row) (step : LinStep) : Type 0 where
  pub range : InRange step
  pub first_row : IsRow first
  pub second_row : IsRow second
  pub made_row : IsRow step.row
  pub form : Combines step.a first.form step.b second.form step.d step.row.form
  pub bound : step.row.bound ≡ int_div_euclid (step.a *ℤ first.bound +ℤ step.b *ℤ second.bound) step.d

-- the same where the two rows are there
abbrev pub DerivesFrom : Option Row → Option Row → LinStep → Type 0
DerivesFrom (Some first) (Some second) step = Derives first second step
DerivesFrom (Some first) None step = ⊥
DerivesFrom None second step = ⊥

-- each step's row is derived from earlier ones: those given, and then the rows of the steps before it
abbrev pub AreSteps : List Row → List LinStep → Type 0
AreSteps earlier [] = Unit {0}
AreSteps earlier (step ∷ steps) = DerivesFrom (slice_get earlier step.i) (slice_get earlier step.j) step × AreSteps (earlier ++ step.row ∷ []) steps

-- the step's row says that 0 is at most a negative number
abbrev pub IsAbsurd : LinStep → Type 0
IsAbsurd step = (step.row.form ≡ []) × (step.row.bound <ℤ pos 0)

-- there is a last step, and its row says so
abbrev pub EndsAbsurd : List LinStep → Type 0
EndsAbsurd [] = ⊥
EndsAbsurd (step ∷ []) = IsAbsurd step
EndsAbsurd (step ∷ next ∷ steps) = EndsAbsurd (next ∷ steps)

-- the steps derive a contradiction from the rows
abbrev pub Refutes : List LinStep → List Row → Type 0
Refutes steps rows = AreSteps rows steps × EndsAbsurd steps
