-- How a table of nodes is seen as terms. Beside each node stands whether its term holds a variable of a fact.
use Rattle.std.specs.Prelude.{◌≡◌, ℕ, Bool, false, ◌&&◌, ◌||◌, nat_le, nat_lt, List, [], ◌∷◌, ◌++◌, length, Some, slice_get}
use Rattle.jesc_logic.specs.declared.terms.Node.{Node}
use Rattle.jesc_logic.specs.Terms.{Term, number, constant, unary, binary, ternary, node_term, IsBelow, AreApart}

abbrev pub Entry : Type 0
Entry = Node × Bool

-- the terms of further nodes, whose parts are among the terms before
abbrev pub terms_after : List Term → List Entry → List Term
terms_after terms [] = terms
terms_after terms (entry ∷ rest) = terms_after (terms ++ node_term terms entry.0 ∷ []) rest

abbrev pub terms_of : List Entry → List Term
terms_of entries = terms_after [] entries

-- the symbols of the variables of facts
abbrev pub is_variable : ℕ → Bool
is_variable symbol = nat_le 32 symbol && nat_lt symbol 64

-- the term holds a variable of a fact
abbrev pub is_open : Term → Bool
is_open (number n) = false
is_open (constant symbol) = is_variable symbol
is_open (unary symbol a) = is_open a
is_open (binary symbol a b) = is_open a || is_open b
is_open (ternary symbol a b c) = is_open a || is_open b || is_open c

-- each node's parts come before it, each entry's term is that of its node, and no two terms are equal
pub record IsTable (entries : List Entry) : Type 0 where
  pub below : (k : ℕ) (entry : Entry) → slice_get entries k ≡ Some entry → IsBelow k entry.0
  pub spelled : (k : ℕ) (entry : Entry) → slice_get entries k ≡ Some entry → slice_get (terms_of entries) k ≡ Some (node_term (terms_of entries) entry.0)
  pub marked : (k : ℕ) (entry : Entry) → slice_get entries k ≡ Some entry → entry.1 ≡ is_open (node_term (terms_of entries) entry.0)
  pub count : length (terms_of entries) ≡ length entries
  pub apart : AreApart (terms_of entries)
