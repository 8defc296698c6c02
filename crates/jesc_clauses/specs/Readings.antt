-- What makes formulas without variables true, where opaque terms may have any numbers.
use Rattle.std.specs.Prelude.{◌≡◌, ℕ, zero, suc, Bool, true, false, ◌||◌, ◌⊎◌, not, IsTrue, ℤ, ◌+ℤ◌, ◌*ℤ◌, List, [], ◌∷◌, All, map, if◌then◌else◌}
use Rattle.jesc_logic.specs.Terms.{Term, number, constant, unary, binary, ternary}
use Rattle.jesc_logic.specs.Claims.{Claim, truth, falsity, at_most, equal, negation, both, either, over}
use Rattle.jesc_logic.specs.Structures.{holds}

abbrev pub is_number : Term → Bool
is_number (number n) = true
is_number (constant symbol) = false
is_number (unary symbol a) = false
is_number (binary symbol a b) = false
is_number (ternary symbol a b c) = false

-- of the applications of symbols 0 and 1, sum and product, a sum isn't opaque, nor a product with a number
abbrev pub is_opaque_of_two : ℕ → Term → Term → Bool
is_opaque_of_two zero a b = false
is_opaque_of_two (suc zero) a b = not (is_number a || is_number b)
is_opaque_of_two (suc (suc k)) a b = true

-- an application other than a sum or a product with a number
abbrev pub is_opaque : Term → Bool
is_opaque (number n) = false
is_opaque (constant symbol) = true
is_opaque (unary symbol a) = true
is_opaque (binary symbol a b) = is_opaque_of_two symbol a b
is_opaque (ternary symbol a b c) = true

-- what each opaque term is given
abbrev pub Values : Type 0
Values = Term → ℤ

-- the sum or the product, of which only the first is for symbol 0
abbrev pub sum_or_product : ℕ → ℤ → ℤ → ℤ
sum_or_product zero x y = x +ℤ y
sum_or_product (suc k) x y = x *ℤ y

-- what a term is worth
abbrev pub reading : Values → Term → ℤ
reading w (number n) = n
reading w (constant symbol) = w (constant symbol)
reading w (unary symbol a) = w (unary symbol a)
reading w (binary symbol a b) = if is_opaque_of_two symbol a b then w (binary symbol a b) else sum_or_product symbol (reading w a) (reading w b)
reading w (ternary symbol a b c) = w (ternary symbol a b c)

abbrev pub arguments : Term → List Term
arguments (number n) = []
arguments (constant symbol) = []
arguments (unary symbol a) = a ∷ []
arguments (binary symbol a b) = a ∷ b ∷ []
arguments (ternary symbol a b c) = a ∷ b ∷ c ∷ []

-- the two are applications of one symbol
abbrev pub HaveSymbol : Term → ℕ → Type 0
HaveSymbol (number n) s = ⊥
HaveSymbol (constant symbol) s = symbol ≡ s
HaveSymbol (unary symbol a) s = symbol ≡ s
HaveSymbol (binary symbol a b) s = symbol ≡ s
HaveSymbol (ternary symbol a b c) s = symbol ≡ s

-- opaque applications of one symbol to arguments of the same worth are given the same number
abbrev pub IsCongruent : Values → Type 0
IsCongruent w = (s : ℕ) (t u : Term) → is_opaque t ≡ true → is_opaque u ≡ true → HaveSymbol t s → HaveSymbol u s → map (reading w) (arguments t) ≡ map (reading w) (arguments u) → w t ≡ w u

-- each formula is true
pub record IsModel (claims : List (Claim Term)) (w : Values) : Type 0 where
  pub true : All (λ f. IsTrue (holds (over (reading w) f))) claims
  pub congruent : IsCongruent w

-- the term is u or stands in u
abbrev pub StandsIn : Term → Term → Type 0
StandsIn t (number n) = t ≡ number n
StandsIn t (constant symbol) = t ≡ constant symbol
StandsIn t (unary symbol a) = (t ≡ unary symbol a) ⊎ StandsIn t a
StandsIn t (binary symbol a b) = (t ≡ binary symbol a b) ⊎ (StandsIn t a ⊎ StandsIn t b)
StandsIn t (ternary symbol a b c) = (t ≡ ternary symbol a b c) ⊎ (StandsIn t a ⊎ (StandsIn t b ⊎ StandsIn t c))

-- the term stands in the formula
abbrev pub StandsInClaim : Term → Claim Term → Type 0
StandsInClaim t truth = ⊥
StandsInClaim t falsity = ⊥
StandsInClaim t (at_most a b) = StandsIn t a ⊎ StandsIn t b
StandsInClaim t (equal a b) = StandsIn t a ⊎ StandsIn t b
StandsInClaim t (negation f) = StandsInClaim t f
StandsInClaim t (both f g) = StandsInClaim t f ⊎ StandsInClaim t g
StandsInClaim t (either f g) = StandsInClaim t f ⊎ StandsInClaim t g

-- the two sides of a comparison in the formula
abbrev pub Compares : {T : Type 0} → T → T → Claim T → Type 0
Compares a b truth = ⊥
Compares a b falsity = ⊥
Compares a b (at_most c d) = (a ≡ c) × (b ≡ d)
Compares a b (equal c d) = ((a ≡ c) × (b ≡ d)) ⊎ ((a ≡ d) × (b ≡ c))
Compares a b (negation f) = Compares a b f
Compares a b (both f g) = Compares a b f ⊎ Compares a b g
Compares a b (either f g) = Compares a b f ⊎ Compares a b g
