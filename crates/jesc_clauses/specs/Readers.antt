-- Terms that have been read as sums. Words that only contracts inside the crate use.
use Rattle.std.specs.Prelude.{◌≡◌, ℕ, ◌<◌, ◌≤◌, ◌^◌, pos, List, [], ◌∷◌, ◌++◌, ◌⊎◌, ℤ, ◌+ℤ◌, ◌*ℤ◌, All, length, true, Some, slice_get}
use Rattle.jesc_logic.specs.declared.terms.TermId.{TermId}
use Rattle.jesc_logic.specs.Terms.{Term, binary, term_at, AreApart}
use Rattle.jesc_clauses.specs.declared.lin.Lin.{Lin}
use Rattle.jesc_clauses.specs.declared.clause.Opaque.{Opaque}
use Rattle.jesc_clauses.specs.Countermodels.{lin_value}
use Rattle.jesc_linear.specs.Forms.{value}
use Rattle.jesc_clauses.specs.Readings.{StandsIn, is_opaque}
use Rattle.jesc_clauses.specs.Merges.{only_at}
use Rattle.jesc_clauses.specs.Sums.{IsLin, IsMade, IsBelowAll, IsOneOf, IsTooWide, AreOpaques, IsReadAs, IsNarrowAll, names_of}

-- terms by number, each with its sum
abbrev pub Entries : Type 0
Entries = List (ℕ × Lin)

-- the entry of the term with this number has the sum
abbrev pub IsSumAt : Entries → ℕ → Lin → Type 0
IsSumAt entries id lin = (k : ℕ) × (slice_get entries k ≡ Some (id, lin))

-- the term with this number has been read
abbrev pub HasSum : Entries → ℕ → Type 0
HasSum entries id = (lin : Lin) × IsSumAt entries id lin

abbrev pub term_of : List Term → ℕ → Term
term_of table id = term_at table (record { 0 = id })

-- each opaque term that stands in the term is among these
abbrev pub IsNamedAll : List Term → Term → Type 0
IsNamedAll names t = (u : Term) → StandsIn u t → is_opaque u ≡ true → (i : ℕ) × (slice_get names i ≡ Some u)

-- in the term nothing is too large, and no opaque term is without a number
pub record IsKnownAll (names : List Term) (t : Term) : Type 0 where
  pub narrow : IsNarrowAll t
  pub named : IsNamedAll names t

-- the sum is that of the entry's term, in which nothing is too large and no opaque term without a number
pub record IsRead (table : List Term) (opaques : List Opaque) (entry : ℕ × Lin) : Type 0 where
  pub there : entry.0 < length table
  pub known : IsKnownAll (names_of table opaques) (term_of table entry.0)
  pub read : IsReadAs (names_of table opaques) (term_of table entry.0) entry.1

pub record IsReader (table : List Term) (entries : Entries) (opaques : List Opaque) : Type 0 where
  pub apart : AreApart table
  pub opaques_are : AreOpaques table opaques
  pub read : (k : ℕ) (entry : ℕ × Lin) → slice_get entries k ≡ Some entry → IsRead table opaques entry
  pub known : (i : ℕ) (o : Opaque) → slice_get opaques i ≡ Some o → HasSum entries o.id.0

-- the sums are those of the terms with these numbers
abbrev pub AreSumsOf : Entries → List TermId → List Lin → Type 0
AreSumsOf entries [] [] = Unit {0}
AreSumsOf entries [] (lin ∷ lins) = ⊥
AreSumsOf entries (id ∷ ids) [] = ⊥
AreSumsOf entries (id ∷ ids) (lin ∷ lins) = IsSumAt entries id.0 lin × AreSumsOf entries ids lins

-- each of the terms with these numbers has been read
abbrev pub HaveSums : Entries → List TermId → Type 0
HaveSums entries ids = All (λ id. HasSum entries id.0) ids

-- what was read stays
pub record IsGrown (entries later : Entries) (opaques further : List Opaque) : Type 0 where
  pub sums : (k : ℕ) (entry : ℕ × Lin) → slice_get entries k ≡ Some entry → slice_get later k ≡ Some entry
  pub terms : (i : ℕ) (o : Opaque) → slice_get opaques i ≡ Some o → slice_get further i ≡ Some o
  pub longer : length opaques ≤ length further

-- the term with this number has been read, and what was read before stays
pub record HasRead (table : List Term) (entries later : Entries) (opaques further : List Opaque) (id : ℕ) : Type 0 where
  pub reader : IsReader table later further
  pub grown : IsGrown entries later opaques further
  pub has : HasSum later id

-- an opaque term is put in under the next number
pub record IsPut (entries later : Entries) (opaques further : List Opaque) (id : TermId) (symbol : ℕ) (ids : List TermId) : Type 0 where
  pub args : List Lin
  pub sums : AreSumsOf entries ids args
  pub short : length opaques < 2 ^ 32
  pub later_is : later ≡ entries ++ (id.0, record { form = (pos 1, length opaques) ∷ []; constant = pos 0 }) ∷ []
  pub further_is : further ≡ opaques ++ record { id = id; symbol = symbol; args = args } ∷ []

-- each sum is in bounds
abbrev pub AreLins : Entries → Type 0
AreLins entries = (k : ℕ) (entry : ℕ × Lin) → slice_get entries k ≡ Some entry → IsLin entry.1

-- the sum of the sums of two terms
pub record IsSumOf (entries : Entries) (a b : ℕ) (lin : Lin) : Type 0 where
  pub x : Lin
  pub y : Lin
  pub at_a : IsSumAt entries a x
  pub at_b : IsSumAt entries b y
  pub made : IsMade (λ v. lin_value v x +ℤ lin_value v y) (λ n. IsBelowAll x n × IsBelowAll y n) lin

pub record IsWideSumOf (entries : Entries) (a b : ℕ) (n : ℤ) : Type 0 where
  pub x : Lin
  pub y : Lin
  pub at_a : IsSumAt entries a x
  pub at_b : IsSumAt entries b y
  pub wide : IsTooWide (IsOneOf (λ i. value (only_at i) x.form +ℤ value (only_at i) y.form)) (x.constant +ℤ y.constant) n

-- a number times the sum of a term
pub record IsMultipleOf (entries : Entries) (k : ℤ) (a : ℕ) (lin : Lin) : Type 0 where
  pub x : Lin
  pub at_a : IsSumAt entries a x
  pub made : IsMade (λ v. k *ℤ lin_value v x) (IsBelowAll x) lin

pub record IsWideMultipleOf (entries : Entries) (k : ℤ) (a : ℕ) (n : ℤ) : Type 0 where
  pub x : Lin
  pub at_a : IsSumAt entries a x
  pub wide : IsTooWide (IsOneOf (λ i. k *ℤ value (only_at i) x.form)) (k *ℤ x.constant) n

-- the product of two terms, in either order
abbrev pub IsProductOf : Term → Term → Term → Type 0
IsProductOf a b t = (t ≡ binary 1 a b) ⊎ (t ≡ binary 1 b a)
