-- Terms are equal or not, and what stands in them.
use Rattle.std.proofs.Common.{◌≡◌, ◌==◌, Bool, true, false, ℕ, zero, suc, ℤ, List, [], ◌∷◌, Some, slice_get, refl, sym, ap, subst, ◌∙◌, ◌⊎◌, inl, inr, true≢false}
use Rattle.std.proofs.lemmas.Bool.{eqb-true, eq-eqb}
use Rattle.std.proofs.lemmas.Bool.Decides.{Decides-int_eq}
use Rattle.std.proofs.lemmas.List.Elements.{All-head, All-tail, All-weaker}
use Rattle.std.specs.Ordering.{int_eq}
use Rattle.std.specs.Prelude.{All}
use Rattle.jesc_logic.specs.Terms.{Term, number, constant, unary, binary, ternary, Keeps}
use Rattle.jesc_clauses.specs.Readings.{StandsIn, arguments, is_opaque}
use Rattle.jesc_clauses.specs.Readers.{IsKnownAll, IsNamedAll}
use Rattle.jesc_clauses.specs.Sums.{IsNarrow, IsNarrowAll}

pub nat_or_not : (m n : ℕ) → (m ≡ n) ⊎ (m ≡ n → ⊥)
nat_or_not m n = by (m == n) refl
  where
    by : (b : Bool) → m == n ≡ b → (m ≡ n) ⊎ (m ≡ n → ⊥)
    by true e = inl (eqb-true m n e)
    by false e = inr (λ p. true≢false (sym (eq-eqb m n p) ∙ e))

int_or_not : (m n : ℤ) → (m ≡ n) ⊎ (m ≡ n → ⊥)
int_or_not m n = by (int_eq m n) refl
  where
    by : (b : Bool) → int_eq m n ≡ b → (m ≡ n) ⊎ (m ≡ n → ⊥)
    by true e = inl ((Decides-int_eq m n).0 e)
    by false e = inr (λ p. true≢false (sym ((Decides-int_eq m n).1 p) ∙ e))

both_or_not : {P Q R : Type 0} → (P → Q → R) → (R → P × Q) → P ⊎ (P → ⊥) → Q ⊎ (Q → ⊥) → R ⊎ (R → ⊥)
both_or_not f g (inl p) (inl q) = inl (f p q)
both_or_not f g (inl p) (inr q) = inr (λ r. q (g r).1)
both_or_not f g (inr p) q = inr (λ r. p (g r).0)

pub same_or_not : (t u : Term) → (t ≡ u) ⊎ (t ≡ u → ⊥)
same_or_not (number m) (number n) = elim (int_or_not m n) [ inl e ↦ inl (ap number e) | inr h ↦ inr (λ e. h (cc)) ]
same_or_not (constant s) (constant r) = elim (nat_or_not s r) [ inl e ↦ inl (ap constant e) | inr h ↦ inr (λ e. h (cc)) ]
same_or_not (unary s a) (unary r b) = both_or_not (λ p q i. unary (p i) (q i)) (λ e. (cc, cc)) (nat_or_not s r) (same_or_not a b)
same_or_not (binary s a b) (binary r c d) =
    both_or_not {P = (s ≡ r) × (a ≡ c)} (λ p q i. binary (p.0 i) (p.1 i) (q i)) (λ e. ((cc, cc), cc))
    (both_or_not (λ p q. (p, q)) (λ e. e) (nat_or_not s r) (same_or_not a c)) (same_or_not b d)
same_or_not (ternary s a b c) (ternary r d e f) =
    both_or_not {P = (s ≡ r) × (a ≡ d)} {Q = (b ≡ e) × (c ≡ f)} (λ p q i. ternary (p.0 i) (p.1 i) (q.0 i) (q.1 i)) (λ e. ((cc, cc), (cc, cc)))
    (both_or_not (λ p q. (p, q)) (λ e. e) (nat_or_not s r) (same_or_not a d)) (both_or_not (λ p q. (p, q)) (λ e. e) (same_or_not b e) (same_or_not c f))
same_or_not t u = inr (λ e. cc)

pub stands_itself : (t : Term) → StandsIn t t
stands_itself (number n) = refl
stands_itself (constant s) = refl
stands_itself (unary s a) = inl refl
stands_itself (binary s a b) = inl refl
stands_itself (ternary s a b c) = inl refl

pub stands_below : (u t a : Term) (k : ℕ) → slice_get (arguments t) k ≡ Some a → StandsIn u a → StandsIn u t
stands_below u (number n) a k e h = cc
stands_below u (constant s) a k e h = cc
stands_below u (unary s b) a zero e h = let p : b ≡ a = cc in inr (subst (λ (x : Term). StandsIn u x) (sym p) h)
stands_below u (unary s b) a (suc k) e h = cc
stands_below u (binary s b c) a zero e h = let p : b ≡ a = cc in inr (inl (subst (λ (x : Term). StandsIn u x) (sym p) h))
stands_below u (binary s b c) a (suc zero) e h = let p : c ≡ a = cc in inr (inr (subst (λ (x : Term). StandsIn u x) (sym p) h))
stands_below u (binary s b c) a (suc (suc k)) e h = cc
stands_below u (ternary s b c d) a zero e h = let p : b ≡ a = cc in inr (inl (subst (λ (x : Term). StandsIn u x) (sym p) h))
stands_below u (ternary s b c d) a (suc zero) e h = let p : c ≡ a = cc in inr (inr (inl (subst (λ (x : Term). StandsIn u x) (sym p) h)))
stands_below u (ternary s b c d) a (suc (suc zero)) e h = let p : d ≡ a = cc in inr (inr (inr (subst (λ (x : Term). StandsIn u x) (sym p) h)))
stands_below u (ternary s b c d) a (suc (suc (suc k))) e h = cc

-- what is so of the term and of all that stands in its arguments is so of all that stands in it
module _ (P : Term → Type 0) where
  abbrev pub InAll : Term → Type 0
  InAll t = (u : Term) → StandsIn u t → P u

  pub in_all : (t : Term) → P t → All InAll (arguments t) → InAll t
  in_all (number n) h all u s = subst P (sym s) h
  in_all (constant c) h all u s = subst P (sym s) h
  in_all (unary c a) h all u s = elim s [ inl e ↦ subst P (sym e) h | inr r ↦ All-head InAll a [] all u r ]
  in_all (binary c a b) h all u s = elim s [
    | inl e ↦ subst P (sym e) h
    | inr r ↦ elim r [ inl q ↦ All-head InAll a (b ∷ []) all u q | inr q ↦ All-head InAll b [] (All-tail InAll a (b ∷ []) all) u q ]
  ]
  in_all (ternary c a b d) h all u s = elim s [
    | inl e ↦ subst P (sym e) h
    | inr r ↦ elim r [
      | inl q ↦ All-head InAll a (b ∷ d ∷ []) all u q
      | inr q ↦ elim q [
        | inl x ↦ All-head InAll b (d ∷ []) (All-tail InAll a (b ∷ d ∷ []) all) u x
        | inr x ↦ All-head InAll d [] (All-tail InAll b (d ∷ []) (All-tail InAll a (b ∷ d ∷ []) all)) u x
      ]
    ]
  ]

-- the same of the terms known
pub known_all : (names : List Term) (t : Term) → IsNarrow t → (is_opaque t ≡ true → (i : ℕ) × (slice_get names i ≡ Some t)) → All (IsKnownAll names) (arguments t) → IsKnownAll names t
known_all names t narrow named args = record {
  narrow = in_all IsNarrow t narrow (All-weaker (IsKnownAll names) IsNarrowAll (λ u h. h.narrow) (arguments t) args);
  named = in_all (λ u. is_opaque u ≡ true → (i : ℕ) × (slice_get names i ≡ Some u)) t named (All-weaker (IsKnownAll names) (IsNamedAll names) (λ u h. h.named) (arguments t) args);
}

pub known_later : (names more : List Term) → Keeps names more → (t : Term) → IsKnownAll names t → IsKnownAll more t
known_later names more keep t h = record { narrow = h.narrow; named = λ u s o. let n = h.named u s o in (n.0, keep.keeps n.0 u n.1) }
