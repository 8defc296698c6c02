-- Rows of literals and steps in the numbers of a line. Words that only contracts inside the crate use.
use Rattle.std.specs.Prelude.{◌≡◌, ◌≤◌, ◌<◌, ◌^◌, ℕ, zero, suc, ℤ, pos, negsuc, unsigned_abs, All, List, ◌∷◌, Option, Some, None, slice_get}
use Rattle.jesc_linear.specs.declared.rows.Row.{Row}
use Rattle.jesc_linear.specs.declared.rows.LinStep.{LinStep}
use Rattle.jesc_linear.specs.Steps.{IsNarrow}
use Rattle.jesc_clauses.specs.declared.atom.Atom.{Atom}
use Rattle.jesc_accept.specs.Lemmas.{IsRowOf, AreRowsOf, IsThere, sum_numbers}

-- ---- rows of literals

-- the atom of the literal, where it is there
abbrev pub atom_of_literal : List Atom → ℤ → Option Atom
atom_of_literal atoms (pos zero) = None
atom_of_literal atoms (pos (suc k)) = slice_get atoms k
atom_of_literal atoms (negsuc k) = slice_get atoms k

-- a number of an atom, or the literal of one
abbrev pub IsShort : ℤ → Type 0
IsShort number = unsigned_abs number ≤ 2 ^ 65

abbrev pub AreShort : List ℤ → Type 0
AreShort literals = All IsShort literals

-- where the atom is there, its number is short
abbrev pub IsShortWhere : Option Atom → ℤ → Type 0
IsShortWhere None number = Unit {0}
IsShortWhere (Some atom) number = IsShort number

abbrev pub HasNoRow : List Atom → ℤ → Type 0
HasNoRow atoms literal = (row : Row) → IsRowOf atoms literal row → ⊥

pub record HasRow (atoms : List Atom) (literal : ℤ) (row : Row) : Type 0 where
  pub is : IsRowOf atoms literal row
  pub short : IsShort literal

abbrev pub HaveNoRows : List Atom → List ℤ → Type 0
HaveNoRows atoms literals = (rows : List Row) → AreRowsOf atoms literals rows → ⊥

pub record HaveRows (atoms : List Atom) (literals : List ℤ) (rows : List Row) : Type 0 where
  pub are : AreRowsOf atoms literals rows
  pub short : AreShort literals

-- ---- steps

abbrev pub IsRowNumber : ℤ → Type 0
IsRowNumber number = (k : ℕ) × ((number ≡ pos k) × (k < 2 ^ 32))

-- the numbers are those of the step, over so many terms
pub record IsStepOf (terms : ℕ) (numbers : List ℤ) (l : LinStep) : Type 0 where
  pub are : numbers ≡ l.a ∷ pos l.i ∷ l.b ∷ pos l.j ∷ l.d ∷ sum_numbers l.row.bound l.row.form
  pub first : l.i < 2 ^ 32
  pub second : l.j < 2 ^ 32
  pub narrow : All IsNarrow l.row.form
  pub there : All (IsThere terms) l.row.form

-- they are those of no step
abbrev pub AreNoStep : ℕ → List ℤ → Type 0
AreNoStep terms numbers = (l : LinStep) → IsStepOf terms numbers l → ⊥
