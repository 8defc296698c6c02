-- Terms read as sums, and numbers in them that are too large.
use Rattle.std.specs.Prelude.{◌≡◌, ℕ, ◌<◌, ◌≤◌, ◌^◌, ◌⊎◌, min, suc, true, ℤ, pos, negsuc, ◌-ℤ◌, unsigned_abs, List, [], ◌∷◌, All, map, length, Some, slice_get, unwrap_or}
use Rattle.std.proofs.Math.IntN.{neg_ℤ}
use Rattle.jesc_logic.specs.Terms.{Term, number, term_at, IsIn}
use Rattle.jesc_clauses.specs.declared.lin.Lin.{Lin}
use Rattle.jesc_clauses.specs.declared.clause.Opaque.{Opaque}
use Rattle.jesc_clauses.specs.Countermodels.{lin_value}
use Rattle.jesc_clauses.specs.Merges.{IsSized}
use Rattle.jesc_clauses.specs.Readings.{Values, reading, is_opaque, arguments, HaveSymbol, StandsIn}

-- ---- terms without numbers of their own

-- gives one term the number 1, and any other 0
pub record IsOnly (x : Term) (w : Values) : Type 0 where
  pub one : w x ≡ pos 1
  pub others : (t : Term) → (t ≡ x → ⊥) → w t ≡ pos 0

-- what the term is worth where each opaque term is 0
abbrev pub constant_of : Term → ℤ
constant_of t = reading (λ u. pos 0) t

-- n is how much more the term is worth where one opaque term is 1
pub record IsCoefficient (t : Term) (n : ℤ) : Type 0 where
  pub term : Term
  pub opaque : is_opaque term ≡ true
  pub values : Values
  pub only : IsOnly term values
  pub is : n ≡ reading values t -ℤ constant_of t

-- the coefficients are at most 2^31 in size, and the constant 2^94
pub record IsNarrow (t : Term) : Type 0 where
  pub coefficients : (n : ℤ) → IsCoefficient t n → unsigned_abs n ≤ 2 ^ 31
  pub constant : unsigned_abs (constant_of t) ≤ 2 ^ 94

-- and so is each term that stands in it
abbrev pub IsNarrowAll : Term → Type 0
IsNarrowAll t = (u : Term) → StandsIn u t → IsNarrow u

-- the number, or 2^126 with its sign where it is larger in size
abbrev pub capped : ℤ → ℤ
capped (pos n) = pos (min n (2 ^ 126))
capped (negsuc n) = neg_ℤ (pos (min (suc n) (2 ^ 126)))

-- n stands for a coefficient or a constant that is too large
pub record IsTooWide (HasCoefficient : ℤ → Type 0) (constant n : ℤ) : Type 0 where
  pub wide : ℤ
  pub is : n ≡ capped wide
  pub how : (HasCoefficient wide × (2 ^ 31 < unsigned_abs wide)) ⊎ ((wide ≡ constant) × (2 ^ 94 < unsigned_abs wide))

-- a term that stands in this one has a number that is too large
pub record IsWideIn (t : Term) (n : ℤ) : Type 0 where
  pub term : Term
  pub stands : StandsIn term t
  pub wide : IsTooWide (IsCoefficient term) (constant_of term) n

-- ---- sums of numbered terms

-- what each number is given where opaque terms are given numbers
abbrev pub valued : Values → List Term → ℕ → ℤ
valued w names i = w (unwrap_or (slice_get names i) (number (pos 0)))

-- the sum is in bounds
pub record IsLin (lin : Lin) : Type 0 where
  pub sized : IsSized (2 ^ 31) lin.form
  pub constant : unsigned_abs lin.constant ≤ 2 ^ 94

-- the numbers in the form are below n
abbrev pub IsBelowAll : Lin → ℕ → Type 0
IsBelowAll lin n = All (λ part. part.1 < n) lin.form

-- the sum of terms by number is worth what the term is, whatever opaque terms are given
pub record IsReadAs (names : List Term) (t : Term) (lin : Lin) : Type 0 where
  pub bounded : IsLin lin
  pub there : IsBelowAll lin (length names)
  pub worth : (w : Values) → lin_value (valued w names) lin ≡ reading w t

abbrev pub AreReadAs : List Term → List Term → List Lin → Type 0
AreReadAs names [] [] = Unit {0}
AreReadAs names [] (lin ∷ lins) = ⊥
AreReadAs names (t ∷ ts) [] = ⊥
AreReadAs names (t ∷ ts) (lin ∷ lins) = IsReadAs names t lin × AreReadAs names ts lins

-- the terms by number
abbrev pub names_of : List Term → List Opaque → List Term
names_of table opaques = map (λ o. term_at table o.id) opaques

-- the entry of number i tells of its term, whose arguments are sums of terms of smaller numbers
pub record IsNamed (table : List Term) (opaques : List Opaque) (i : ℕ) (o : Opaque) : Type 0 where
  pub there : IsIn table o.id
  pub opaque : is_opaque (term_at table o.id) ≡ true
  pub symbol : HaveSymbol (term_at table o.id) o.symbol
  pub args : AreReadAs (names_of table opaques) (arguments (term_at table o.id)) o.args
  pub smaller : All (λ lin. IsBelowAll lin i) o.args

-- each entry tells of its term, and equal terms have one number
pub record AreOpaques (table : List Term) (opaques : List Opaque) : Type 0 where
  pub named : (i : ℕ) (o : Opaque) → slice_get opaques i ≡ Some o → IsNamed table opaques i o
  pub apart : (i j : ℕ) (t : Term) → slice_get (names_of table opaques) i ≡ Some t → slice_get (names_of table opaques) j ≡ Some t → i ≡ j

-- ---- what calls on sums answer

-- the sum is worth so much
pub record IsMade (worth : (ℕ → ℤ) → ℤ) (There : ℕ → Type 0) (lin : Lin) : Type 0 where
  pub bounded : IsLin lin
  pub there : (n : ℕ) → There n → IsBelowAll lin n
  pub is : (v : ℕ → ℤ) → lin_value v lin ≡ worth v

-- n is the coefficient of some number
abbrev pub IsOneOf : (ℕ → ℤ) → ℤ → Type 0
IsOneOf coefficient n = (i : ℕ) × (n ≡ coefficient i)
