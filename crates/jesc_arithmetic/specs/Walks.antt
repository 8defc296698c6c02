-- Operations on terms by number. Words that only contracts inside the crate use.
use Rattle.std.specs.Prelude.{◌≡◌, ◌⊎◌, List, [], ◌∷◌, All, Contains, map}
use Rattle.std.specs.List.{filter_map}
use Rattle.indexmap.specs.IndexSet.{insert_all}
use Rattle.jesc_logic.specs.declared.terms.TermId.{TermId}
use Rattle.jesc_logic.specs.Terms.{Term, number, constant, unary, binary, ternary, term_at, IsIn, AreApart}
use Rattle.jesc_logic.specs.Claims.{Claim}
use Rattle.jesc_arithmetic.specs.declared.operation.Operation.{Operation as Numbered}
use Rattle.jesc_arithmetic.specs.declared.operation.Operation.TheVariants.{Product, Quotient, Remainder, Division}
use Rattle.jesc_arithmetic.specs.declared.walk.Walk.{Walk}
use Rattle.jesc_arithmetic.specs.Operations.{Operation, product, quotient, remainder, division, operation_of, same_operation}
use Rattle.jesc_arithmetic.specs.Occurrences.{terms_within, operations_in}

-- the operation on the terms with these numbers
abbrev pub named : List Term → Numbered → Operation
named terms (Product a b) = product (term_at terms a) (term_at terms b)
named terms (Quotient a b) = quotient (term_at terms a) (term_at terms b)
named terms (Remainder a b) = remainder (term_at terms a) (term_at terms b)
named terms (Division a b) = division (term_at terms a) (term_at terms b)

-- the numbers are there
abbrev pub IsOverTerms : List Term → Numbered → Type 0
IsOverTerms terms (Product a b) = IsIn terms a × IsIn terms b
IsOverTerms terms (Quotient a b) = IsIn terms a × IsIn terms b
IsOverTerms terms (Remainder a b) = IsIn terms a × IsIn terms b
IsOverTerms terms (Division a b) = IsIn terms a × IsIn terms b

-- the operations on the terms with these numbers, in order
abbrev pub names : List Term → List Numbered → List Operation
names terms os = map (named terms) os

-- the operations of the terms, in order
abbrev pub operations_of : List Term → List Operation
operations_of ts = filter_map operation_of ts

abbrev pub parts_of : Term → List Term
parts_of (number n) = []
parts_of (constant symbol) = []
parts_of (unary symbol a) = a ∷ []
parts_of (binary symbol a b) = a ∷ b ∷ []
parts_of (ternary symbol a b c) = a ∷ b ∷ c ∷ []

-- the operations of these terms have been found
abbrev pub HasFound : List Term → Walk → List Term → Type 0
HasFound terms walk ts = All (Contains (names terms walk.operations.keys)) (operations_of ts)

-- the operations of each term that was seen, and of its parts, have been found
pub record IsWalk (terms : List Term) (walk : Walk) : Type 0 where
  pub apart : AreApart terms
  pub over : All (IsOverTerms terms) walk.operations.keys
  pub settled : (id : TermId) → Contains walk.seen.keys id → HasFound terms walk (terms_within (term_at terms id))

-- the operations of these terms have been put in behind those found before, each once
pub record HasWalked (terms : List Term) (old new : Walk) (ts : List Term) : Type 0 where
  pub walk : IsWalk terms new
  pub found : names terms new.operations.keys ≡ insert_all same_operation (names terms old.operations.keys) (operations_of ts)

-- one more term has been seen, and no operation was found
pub record HasSeen (old new : Walk) (id : TermId) : Type 0 where
  pub seen : (other : TermId) → Contains new.seen.keys other → Contains old.seen.keys other ⊎ (other ≡ id)
  pub same : new.operations ≡ old.operations

-- the operations found are those of the formulas
pub record HasOperations (terms : List Term) (claims : List (Claim Term)) (walk : Walk) : Type 0 where
  pub over : All (IsOverTerms terms) walk.operations.keys
  pub found : names terms walk.operations.keys ≡ operations_in claims
