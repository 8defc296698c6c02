-- What the clauses of formulas say, and which numbers are too large for them.
use Rattle.std.specs.Prelude.{◌≡◌, true, ℕ, ◌+◌, ◌*◌, ◌<◌, ◌≤◌, ℤ, unsigned_abs, List, ◌⊎◌, length, map, sum, All, Some, slice_get}
use Rattle.jesc_logic.specs.Terms.{Term}
use Rattle.jesc_logic.specs.Claims.{Claim, node_count}
use Rattle.jesc_clauses.specs.declared.atom.Atom.{Atom}
use Rattle.jesc_clauses.specs.declared.clause.Clauses.{Clauses}
use Rattle.jesc_clauses.specs.declared.lin.Lin.{Lin}
use Rattle.jesc_clauses.specs.Countermodels.{IsCountermodel}
use Rattle.jesc_clauses.specs.Normals.{IsNormal}
use Rattle.jesc_clauses.specs.Comparisons.{IsNarrowAtom, IsWideComparison}
use Rattle.jesc_clauses.specs.Readings.{Values, is_opaque, IsModel, StandsInClaim, Compares}
use Rattle.jesc_clauses.specs.Sums.{AreOpaques, IsReadAs, IsNarrow, names_of}
use Rattle.jesc_clauses.specs.Formulas.{IsWideInClaim}

-- the atoms, clauses and literals for each node of a formula are at most so many
abbrev pub most_for_a_node : ℕ
most_for_a_node = 15

-- how many atoms, clauses and literals there are
abbrev pub size_of : List Atom → List (List ℤ) → ℕ
size_of atoms clauses = length atoms + (length clauses + sum (map length clauses))

-- the literal is one of so many atoms or its negation
abbrev pub IsLiteral : ℕ → ℤ → Type 0
IsLiteral count k = (0 < unsigned_abs k) × (unsigned_abs k ≤ count)

-- atoms are in bounds and in normal form, over terms by number below n
pub record IsScopedAtom (n : ℕ) (atom : Atom) : Type 0 where
  pub below : All (λ part. part.1 < n) atom.form
  pub normal : IsNormal atom.form
  pub narrow : IsNarrowAtom atom

-- atoms are over terms by number below n, and clauses are over the atoms
pub record AreScoped (n : ℕ) (atoms : List Atom) (clauses : List (List ℤ)) : Type 0 where
  pub scoped : All (IsScopedAtom n) atoms
  pub literals : All (λ literals. All (IsLiteral (length atoms)) literals) clauses

-- the term stands in one of the formulas
abbrev pub IsAmong : List (Claim Term) → Term → Type 0
IsAmong claims t = (k : ℕ) × (f : Claim Term) × (slice_get claims k ≡ Some f) × StandsInClaim t f

-- w gives the term of each number what v gives the number
abbrev pub Agree : List Term → (ℕ → ℤ) → Values → Type 0
Agree names v w = (i : ℕ) (t : Term) → slice_get names i ≡ Some t → v i ≡ w t

-- with these numbers for terms, two sides of a comparison in the formula are these sums, and the atom has a number that is
-- too large
pub record IsWideOver (names : List Term) (f : Claim Term) (n : ℤ) : Type 0 where
  pub a : Term
  pub b : Term
  pub x : Lin
  pub y : Lin
  pub compares : Compares a b f
  pub read_a : IsReadAs names a x
  pub read_b : IsReadAs names b y
  pub wide : IsWideComparison x y n

-- the clauses are those of the formulas: each countermodel of the clauses is one of the formulas, and each of the formulas
-- extends to one of the clauses, which gives the terms of the formulas the same numbers
pub record IsClausified (table : List Term) (claims : List (Claim Term)) (clauses : Clauses) : Type 0 where
  pub opaques : AreOpaques table clauses.terms
  pub scoped : AreScoped (length clauses.terms) clauses.atoms clauses.clauses
  pub narrow : (t : Term) → IsAmong claims t → IsNarrow t
  pub short : (k : ℕ) (f : Claim Term) (n : ℤ) → slice_get claims k ≡ Some f → IsWideOver (names_of table clauses.terms) f n → ⊥
  pub counted : size_of clauses.atoms clauses.clauses ≤ most_for_a_node * sum (map (λ f. node_count f) claims)
  pub sound : (v : ℕ → ℤ) → IsCountermodel clauses v → (w : Values) × (IsModel claims w × Agree (names_of table clauses.terms) v w)
  pub complete : (w : Values) → IsModel claims w → (v : ℕ → ℤ) × (IsCountermodel clauses v × ((i : ℕ) (t : Term) → IsAmong claims t → slice_get (names_of table clauses.terms) i ≡ Some t → v i ≡ w t))

-- opaque terms by number, and none under two numbers
pub record AreNames (names : List Term) : Type 0 where
  pub opaque : (i : ℕ) (t : Term) → slice_get names i ≡ Some t → is_opaque t ≡ true
  pub apart : (i j : ℕ) (t : Term) → slice_get names i ≡ Some t → slice_get names j ≡ Some t → i ≡ j

-- the same over some numbers for opaque terms
abbrev pub IsWideBetween : Claim Term → ℤ → Type 0
IsWideBetween f n = (names : List Term) × AreNames names × IsWideOver names f n

-- a number of a term in the formulas, or of an atom that a comparison in them comes to, is too large
abbrev pub IsWideAmong : List (Claim Term) → ℤ → Type 0
IsWideAmong claims n = (k : ℕ) × (f : Claim Term) × (slice_get claims k ≡ Some f) × (IsWideInClaim f n ⊎ IsWideBetween f n)
