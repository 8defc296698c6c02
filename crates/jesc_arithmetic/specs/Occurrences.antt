-- Which terms and operations stand in formulas.
use Rattle.std.specs.Prelude.{◌≡◌, List, [], ◌∷◌, ◌++◌, ◌⊎◌, Contains, Some}
use Rattle.std.specs.List.{flat_map, filter_map}
use Rattle.jesc_logic.specs.Terms.{Term, number, constant, unary, binary, ternary}
use Rattle.jesc_logic.specs.Claims.{Claim, truth, falsity, at_most, equal, negation, both, either}
use Rattle.jesc_arithmetic.specs.Operations.{Operation, operation_of, same_operation}
use Rattle.jesc_arithmetic.specs.Firsts.{firsts}

-- ---- as lists: from the left, and a term behind its parts

abbrev pub terms_within : Term → List Term
terms_within (number n) = number n ∷ []
terms_within (constant symbol) = constant symbol ∷ []
terms_within (unary symbol a) = terms_within a ++ unary symbol a ∷ []
terms_within (binary symbol a b) = terms_within a ++ (terms_within b ++ binary symbol a b ∷ [])
terms_within (ternary symbol a b c) = terms_within a ++ (terms_within b ++ (terms_within c ++ ternary symbol a b c ∷ []))

abbrev pub terms_in : Claim Term → List Term
terms_in truth = []
terms_in falsity = []
terms_in (at_most a b) = terms_within a ++ terms_within b
terms_in (equal a b) = terms_within a ++ terms_within b
terms_in (negation f) = terms_in f
terms_in (both f g) = terms_in f ++ terms_in g
terms_in (either f g) = terms_in f ++ terms_in g

-- the operations in the formulas, each once
abbrev pub operations_in : List (Claim Term) → List Operation
operations_in claims = firsts same_operation (filter_map operation_of (flat_map terms_in claims))

-- ---- as relations

-- the term is u or a part of u
abbrev pub StandsIn : Term → Term → Type 0
StandsIn t (number n) = t ≡ number n
StandsIn t (constant symbol) = t ≡ constant symbol
StandsIn t (unary symbol a) = (t ≡ unary symbol a) ⊎ StandsIn t a
StandsIn t (binary symbol a b) = (t ≡ binary symbol a b) ⊎ (StandsIn t a ⊎ StandsIn t b)
StandsIn t (ternary symbol a b c) = (t ≡ ternary symbol a b c) ⊎ (StandsIn t a ⊎ (StandsIn t b ⊎ StandsIn t c))

abbrev pub StandsInClaim : Term → Claim Term → Type 0
StandsInClaim t truth = ⊥
StandsInClaim t falsity = ⊥
StandsInClaim t (at_most a b) = StandsIn t a ⊎ StandsIn t b
StandsInClaim t (equal a b) = StandsIn t a ⊎ StandsIn t b
StandsInClaim t (negation f) = StandsInClaim t f
StandsInClaim t (both f g) = StandsInClaim t f ⊎ StandsInClaim t g
StandsInClaim t (either f g) = StandsInClaim t f ⊎ StandsInClaim t g

-- the operation is that of a term that stands in one of the formulas
pub record HasOperation (claims : List (Claim Term)) (o : Operation) : Type 0 where
  pub formula : Claim Term
  pub among : Contains claims formula
  pub term : Term
  pub stands : StandsInClaim term formula
  pub is : operation_of term ≡ Some o
