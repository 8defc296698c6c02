-- What 'one sum is at most another' comes to.
use Rattle.std.specs.Prelude.{◌≡◌, ℕ, ◌≤◌, ◌^◌, ℤ, pos, negsuc, ◌-ℤ◌, unsigned_abs, Some, slice_get, All}
use Rattle.jesc_linear.specs.Forms.{Form}
use Rattle.jesc_clauses.specs.declared.atom.Atom.{Atom}
use Rattle.jesc_clauses.specs.declared.lin.Lin.{Lin}
use Rattle.jesc_clauses.specs.declared.normal.Normal.{Normal}
use Rattle.jesc_clauses.specs.declared.normal.Normal.TheVariants.{Constant, Holds, Fails}
use Rattle.jesc_clauses.specs.Merges.{IsWithin, IsTogether}
use Rattle.jesc_clauses.specs.Normals.{IsNormalOf, IsShort}
use Rattle.jesc_clauses.specs.Sums.{IsTooWide}

-- the comparison comes to the normal form of 'the difference of the forms is at most that of the constants'
pub record IsComparison (x y : Lin) (normal : Normal) : Type 0 where
  pub form : Form
  pub together : IsTogether (2 ^ 33) (pos 1) x.form (negsuc 0) y.form form
  pub normal_of : IsNormalOf form (y.constant -ℤ x.constant) normal

-- the coefficients are at most 2^31 in size, and the bound 2^94
pub record IsNarrowAtom (atom : Atom) : Type 0 where
  pub within : All (IsWithin (2 ^ 31)) atom.form
  pub small : unsigned_abs atom.bound ≤ 2 ^ 94

-- the form has a part with this coefficient
abbrev pub HasPart : Form → ℤ → Type 0
HasPart form c = (k : ℕ) × (term : ℕ) × (slice_get form k ≡ Some (c, term))

abbrev pub IsWideAtom : Atom → ℤ → Type 0
IsWideAtom atom n = IsTooWide (HasPart atom.form) atom.bound n

abbrev pub IsNarrowNormal : Normal → Type 0
IsNarrowNormal (Constant truth) = Unit {0}
IsNarrowNormal (Holds atom) = IsNarrowAtom atom
IsNarrowNormal (Fails atom) = IsNarrowAtom atom

-- the coefficients are those of a difference of two forms, and the bound one of two constants
pub record IsShortAtom (atom : Atom) : Type 0 where
  pub coefficients : All IsShort atom.form
  pub small : unsigned_abs atom.bound ≤ 2 ^ 97

abbrev pub IsShortNormal : Normal → Type 0
IsShortNormal (Constant truth) = Unit {0}
IsShortNormal (Holds atom) = IsShortAtom atom
IsShortNormal (Fails atom) = IsShortAtom atom

abbrev pub IsWideNormal : Normal → ℤ → Type 0
IsWideNormal (Constant truth) n = ⊥
IsWideNormal (Holds atom) n = IsWideAtom atom n
IsWideNormal (Fails atom) n = IsWideAtom atom n

-- a number of the atom that the comparison comes to is too large
pub record IsWideComparison (x y : Lin) (n : ℤ) : Type 0 where
  pub normal : Normal
  pub is : IsComparison x y normal
  pub wide : IsWideNormal normal n
