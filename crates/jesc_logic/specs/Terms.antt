-- What a term is, and which term a number stands for.
use Rattle.std.specs.Prelude.{◌≡◌, ℕ, zero, suc, ◌<◌, ◌≤◌, ◌^◌, ℤ, pos, List, [], ◌∷◌, length, take, Some, slice_get, unwrap_or}
use Rattle.jesc_logic.specs.declared.terms.TermId.{TermId}
use Rattle.jesc_logic.specs.declared.terms.Node.{Node}
use Rattle.jesc_logic.specs.declared.terms.Node.TheVariants.{Num, App}

-- a whole number, or a symbol applied to at most three terms
pub data Term : Type 0 where
  number : (n : ℤ) → Term
  constant : (symbol : ℕ) → Term
  unary : (symbol : ℕ) (a : Term) → Term
  binary : (symbol : ℕ) (a b : Term) → Term
  ternary : (symbol : ℕ) (a b c : Term) → Term

-- the symbol applied to terms, of which the first three count
abbrev pub applied : ℕ → List Term → Term
applied symbol [] = constant symbol
applied symbol (a ∷ []) = unary symbol a
applied symbol (a ∷ b ∷ []) = binary symbol a b
applied symbol (a ∷ b ∷ c ∷ rest) = ternary symbol a b c

-- Terms by number: term k of the list has the number k.

-- the term of a number that is there
abbrev pub term_at : List Term → TermId → Term
term_at terms id = unwrap_or (slice_get terms id.0) (number (pos 0))

-- the number is there
abbrev pub IsIn : List Term → TermId → Type 0
IsIn terms id = id.0 < length terms

-- the number stands for the term
abbrev pub StandsFor : List Term → TermId → Term → Type 0
StandsFor terms id t = slice_get terms id.0 ≡ Some t

-- later terms, where each number stands for the term that it stood for before
pub record Keeps (old new : List Term) : Type 0 where
  pub longer : length old ≤ length new
  pub keeps : (id : ℕ) (t : Term) → slice_get old id ≡ Some t → slice_get new id ≡ Some t

-- equal terms have equal numbers, which are below 2^32
pub record AreApart (terms : List Term) : Type 0 where
  pub short : length terms < 2 ^ 32
  pub apart : (i j : ℕ) (t : Term) → slice_get terms i ≡ Some t → slice_get terms j ≡ Some t → i ≡ j

-- the term that a node stands for
abbrev pub node_term : List Term → Node → Term
node_term terms (Num n) = number n
node_term terms (App symbol arity a b c) = applied symbol (take arity (term_at terms a ∷ term_at terms b ∷ term_at terms c ∷ []))

-- as many places as the arity tells are below k, and the others are 0
abbrev pub ArePlaces : ℕ → ℕ → ℕ → ℕ → ℕ → Type 0
ArePlaces k zero a b c = (a ≡ 0) × (b ≡ 0) × (c ≡ 0)
ArePlaces k (suc zero) a b c = (a < k) × (b ≡ 0) × (c ≡ 0)
ArePlaces k (suc (suc zero)) a b c = (a < k) × (b < k) × (c ≡ 0)
ArePlaces k (suc (suc (suc zero))) a b c = (a < k) × (b < k) × (c < k)
ArePlaces k (suc (suc (suc (suc n)))) a b c = ⊥

-- the node's parts have numbers below k
abbrev pub IsBelow : ℕ → Node → Type 0
IsBelow k (Num n) = Unit {0}
IsBelow k (App symbol arity a b c) = ArePlaces k arity a.0 b.0 c.0
