-- Formulas whose terms have been read.
use Rattle.std.specs.Prelude.{◌≡◌, ℕ, ℤ, List, All, Some, slice_get}
use Rattle.jesc_logic.specs.declared.terms.TermId.{TermId}
use Rattle.jesc_logic.specs.Terms.{Term}
use Rattle.jesc_logic.specs.Claims.{Claim, Each}
use Rattle.jesc_clauses.specs.declared.clause.Opaque.{Opaque}
use Rattle.jesc_clauses.specs.declared.reader.Reader.{Reader}
use Rattle.jesc_clauses.specs.Readings.{StandsInClaim}
use Rattle.jesc_clauses.specs.Sums.{IsTooWide, IsCoefficient, constant_of}
use Rattle.jesc_clauses.specs.Readers.{Entries, HasSum, IsReader, IsGrown}

-- each term of the formula has been read
abbrev pub HasSums : Entries → Claim TermId → Type 0
HasSums entries f = Each (λ id. HasSum entries id.0) f

-- the terms of the formula have been read, and what was read before stays
pub record HasReadIn (table : List Term) (entries later : Entries) (opaques further : List Opaque) (f : Claim TermId) : Type 0 where
  pub reader : IsReader table later further
  pub grown : IsGrown entries later opaques further
  pub have : HasSums later f

-- a term that stands in the formula has a number that is too large
pub record IsWideInClaim (f : Claim Term) (n : ℤ) : Type 0 where
  pub term : Term
  pub stands : StandsInClaim term f
  pub wide : IsTooWide (IsCoefficient term) (constant_of term) n

-- the terms of each formula have been read
pub record AreReadIn (table : List Term) (formulas : List (Claim TermId)) (r : Reader) : Type 0 where
  pub reader : IsReader table r.sums r.opaques
  pub have : All (HasSums r.sums) formulas

-- a term that stands in one of the formulas has a number that is too large
abbrev pub IsWideOneIn : List (Claim Term) → ℤ → Type 0
IsWideOneIn claims n = (k : ℕ) × (f : Claim Term) × (slice_get claims k ≡ Some f) × IsWideInClaim f n
