-- Ranks, which no supertype passes.
use Rattle.std.proofs.Common.{◌≡◌, ◌↔◌, ℕ, zero, suc, ◌<◌, ◌≤◌, true, false, List, [], length, get_or, replicate, ◌⊎◌, inl, inr, refl, ap, arith}
use Rattle.std.specs.List.{All, Contains}
use Rattle.std.proofs.lemmas.List.Elements.{All-contains, All-get_or}
use Rattle.jesc_classes.specs.Order.{Graph, supers, Above, direct, further, IsWithin}
use Rattle.jesc_classes.specs.Ranks.{AreRanks}

-- the classes that one's heading names are there
pub named : (graph : Graph) (a b : ℕ) → IsWithin graph → a < length graph → Contains (supers graph a) b → b < length graph
named graph a b within l h = All-contains (λ q. q < length graph) (supers graph a) b (All-get_or (λ row. All (λ q. q < length graph) row) graph a [] l within) h

-- a supertype's rank is no greater
pub falls : (graph : Graph) (ranks : List ℕ) → IsWithin graph → AreRanks graph ranks → {a b : ℕ} → Above graph a b → a < length graph → get_or ranks b 0 ≤ get_or ranks a 0
falls graph ranks within are (direct a b h) l = are.above a b l h
falls graph ranks within are (further a b c h rest) l = omega (arith, are.above a b l h, falls graph ranks within are rest (named graph a b within l h))

-- a class of a greater rank isn't reached
pub spared : (graph : Graph) (ranks : List ℕ) (class above : ℕ) → IsWithin graph → AreRanks graph ranks → above < length graph → get_or ranks above 0 < get_or ranks class 0
    → (false ≡ true) ↔ ((above ≡ class) ⊎ Above graph above class)
spared graph ranks class above within are l less = (
  λ e. cc,
  λ c. elim c [
    | inl e ↦ absurd (omega (arith, less, ap (λ q. get_or ranks q 0) e))
    | inr a ↦ absurd (omega (arith, less, falls graph ranks within are a l))
  ],
)

-- a list of one item alone has it everywhere
pub everywhere : {A : Type 0} (x : A) (n i : ℕ) → get_or (replicate n x) i x ≡ x
everywhere x zero i = refl
everywhere x (suc n) zero = refl
everywhere x (suc n) (suc i) = everywhere x n i
