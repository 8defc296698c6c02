-- How the elimination goes on, or ends.
use Rattle.std.specs.Prelude.{◌^◌, ℕ, ltb, if◌then◌else◌, ℤ, [], ◌∷◌, Result, Ok, Err, unsigned_abs}
use Rattle.jesc_linear.specs.declared.rows.Row.{Row}
use Rattle.jesc_linear.specs.Forms.{Form}

-- a row of the table, with its number
pub record Entry : Type 0 where
  pub number : ℕ
  pub row : Row

-- what the elimination ends with, other than values for the variables
pub data Ending : Type 0 where
  refuted : Ending
  wide_forms : ℕ → Ending
  wide_pairs : ℕ → Ending
  wide_number : ℤ → Ending
  gap : Entry → Entry → Ending

-- a value to go on with, or an ending
abbrev pub Course : Type 0 → Type 0
Course A = Result A Ending

abbrev pub and_then : {A B : Type 0} → Course A → (A → Course B) → Course B
and_then (Ok a) f = f a
and_then (Err ending) f = Err ending

-- the number, unless its size is beyond 2 to that power
abbrev pub within : ℕ → ℤ → Course ℤ
within power number = if ltb (2 ^ power) (unsigned_abs number) then Err (wide_number number) else Ok number

-- ends at the first coefficient beyond 2^31, from the left
abbrev pub look_at_form : Form → Course (Unit {0})
look_at_form [] = Ok tt
look_at_form (part ∷ rest) = and_then (within 31 part.0) (λ n. look_at_form rest)

-- the row, unless a coefficient is beyond 2^31 or else its bound beyond 2^94
abbrev pub looked_at : Row → Course Row
looked_at row = and_then (look_at_form row.form) (λ u. and_then (within 94 row.bound) (λ n. Ok row))
