-- Sums of terms by number: what stands of them as terms are added, and their coefficients.
use Rattle.std.proofs.Common.{◌≡◌, true, ℕ, zero, suc, ◌+◌, ◌<◌, ◌≤◌, ◌^◌, ℤ, pos, List, [], ◌∷◌, length, Some, None, Option, slice_get, unwrap_or, refl, sym, ap, ◌∙◌, subst, arith, ◌⊎◌, inl, inr, true≢false}
use Rattle.std.proofs.lemmas.Int.{ints}
use Rattle.std.proofs.lemmas.Bool.Decides.{nat_tests}
use Rattle.std.proofs.Math.IntN.{◌+ℤ◌, ◌-ℤ◌, ◌*ℤ◌, *ℤ-zero, *ℤ_comm, zero-*ℤ, suc_ℤ-*ℤ}
use Rattle.std.proofs.lemmas.List.Elements.{All-head, All-tail, All-weaker}
use Rattle.std.specs.Prelude.{unsigned_abs, All}
use Rattle.jesc_linear.specs.Forms.{Form, value, RisesFrom}
use Rattle.jesc_logic.specs.Terms.{Term, number, Keeps}
use Rattle.jesc_clauses.specs.declared.lin.Lin.{Lin}
use Rattle.jesc_clauses.specs.Merges.{IsWithin, only_at}
use Rattle.jesc_clauses.specs.Readings.{Values, reading, is_opaque}
use Rattle.jesc_clauses.specs.Sums.{IsOnly, constant_of, IsCoefficient, IsNarrow, IsTooWide, IsReadAs, AreReadAs, IsOneOf, valued}
use Rattle.jesc_clauses.proofs.Merging.{IsUnder, only_itself}
use Rattle.jesc_clauses.proofs.Terms.{nat_or_not, same_or_not}

-- ---- values that agree below a number

pub same_value : (n : ℕ) (u v : ℕ → ℤ) (f : Form) → All (IsUnder n) f → ((i : ℕ) → i < n → u i ≡ v i) → value u f ≡ value v f
same_value n u v [] all h = refl
same_value n u v (part ∷ f) all h = λ i. part.0 *ℤ h part.1 (All-head (IsUnder n) part f all) i +ℤ same_value n u v f (All-tail (IsUnder n) part f all) h i

pub value_none : (f : Form) → value (λ i. pos 0) f ≡ pos 0
value_none [] = refl
value_none (part ∷ f) = omega (arith, ints, value_none f, *ℤ-zero part.0)

is_there : (xs : List Term) (i : ℕ) → i < length xs → (t : Term) × (slice_get xs i ≡ Some t)
is_there [] i p = absurd (omega arith)
is_there (x ∷ xs) zero p = (x, refl)
is_there (x ∷ xs) (suc i) p = is_there xs i (omega arith)

pub valued_later : (w : Values) (names later : List Term) → Keeps names later → (i : ℕ) → i < length names → valued w names i ≡ valued w later i
valued_later w names later k i p =
    let h = is_there names i p in
    ap (λ (o : Option Term). w (unwrap_or o (number (pos 0)))) (h.1 ∙ sym (k.keeps i h.0 h.1))

-- a sum says the same over later terms
pub read_later : (names later : List Term) → Keeps names later → (t : Term) (lin : Lin) → IsReadAs names t lin → IsReadAs later t lin
read_later names later k t lin h = record {
  bounded = h.bounded;
  there = All-weaker (IsUnder (length names)) (IsUnder (length later)) (λ part p. omega (arith, p, k.longer)) lin.form h.there;
  worth = λ w. ap (λ x. x +ℤ lin.constant) (sym (same_value (length names) (valued w names) (valued w later) lin.form h.there (valued_later w names later k))) ∙ h.worth w;
}

pub all_read_later : (names later : List Term) → Keeps names later → (ts : List Term) (lins : List Lin) → AreReadAs names ts lins → AreReadAs later ts lins
all_read_later names later k [] [] h = tt
all_read_later names later k [] (lin ∷ lins) h = absurd h
all_read_later names later k (t ∷ ts) [] h = absurd h
all_read_later names later k (t ∷ ts) (lin ∷ lins) h = (read_later names later k t lin h.0, all_read_later names later k ts lins h.1)

pub constant_is : (names : List Term) (t : Term) (lin : Lin) → IsReadAs names t lin → constant_of t ≡ lin.constant
constant_is names t lin h = omega (arith, ints, h.worth (λ u. pos 0), value_none lin.form)

-- ---- coefficients are small

one_times : (x : ℤ) → x *ℤ pos 1 ≡ x
one_times x = omega (arith, ints, *ℤ_comm x (pos 1), suc_ℤ-*ℤ (pos 0) x, zero-*ℤ x)

none_else : (low i : ℕ) (v : ℕ → ℤ) (f : Form) → i < low → RisesFrom low f → ((j : ℕ) → (j ≡ i → ⊥) → v j ≡ pos 0) → value v f ≡ pos 0
none_else low i v [] l r h = refl
none_else low i v (part ∷ f) l r h =
    omega (arith, ints, none_else (part.1 + 1) i v f (omega (arith, r.0)) r.1 h, ap (λ x. part.0 *ℤ x) (h part.1 (λ e. omega (arith, r.0, e))), *ℤ-zero part.0)

-- where at most one number counts, and once
pub one_value : (low : ℕ) (v : ℕ → ℤ) (f : Form) → RisesFrom low f → All (IsWithin (2 ^ 31)) f → ((i : ℕ) → (v i ≡ pos 0) ⊎ ((v i ≡ pos 1) × ((j : ℕ) → (j ≡ i → ⊥) → v j ≡ pos 0))) → unsigned_abs (value v f) ≤ 2 ^ 31
one_value low v [] r all h = omega arith
one_value low v (part ∷ f) r all h = elim (h part.1) [
  | inl z ↦
      let rest = one_value (part.1 + 1) v f r.1 (All-tail (IsWithin (2 ^ 31)) part f all) h in
      let e : value v (part ∷ f) ≡ value v f = omega (arith, ints, ap (λ x. part.0 *ℤ x) z, *ℤ-zero part.0) in
      subst (λ (x : ℤ). unsigned_abs x ≤ 2 ^ 31) (sym e) rest
  | inr o ↦
      let e : value v (part ∷ f) ≡ part.0 = omega (arith, ints, none_else (part.1 + 1) part.1 v f (omega arith) r.1 o.1, ap (λ x. part.0 *ℤ x) o.0, one_times part.0) in
      subst (λ (x : ℤ). unsigned_abs x ≤ 2 ^ 31) (sym e) (All-head (IsWithin (2 ^ 31)) part f all)
]

abbrev pub AreDistinct : List Term → Type 0
AreDistinct names = (i j : ℕ) (t : Term) → slice_get names i ≡ Some t → slice_get names j ≡ Some t → i ≡ j

-- the number zero isn't opaque, so past the end nothing counts
past_or_there : (names : List Term) (i : ℕ) → ((t : Term) × (slice_get names i ≡ Some t)) ⊎ (slice_get names i ≡ None)
past_or_there [] i = inr refl
past_or_there (x ∷ xs) zero = inl (x, refl)
past_or_there (x ∷ xs) (suc i) = past_or_there xs i

not_opaque : (x : Term) → is_opaque x ≡ true → number (pos 0) ≡ x → ⊥
not_opaque x o e = true≢false (sym o ∙ ap is_opaque (sym e))

module _ (names : List Term) (distinct : AreDistinct names) (x : Term) (o : is_opaque x ≡ true) (w : Values) (only : IsOnly x w) where
  zero_past : (i : ℕ) → slice_get names i ≡ None → valued w names i ≡ pos 0
  zero_past i e = ap (λ (p : Option Term). w (unwrap_or p (number (pos 0)))) e ∙ only.others (number (pos 0)) (not_opaque x o)

  zero_at : (j : ℕ) → (slice_get names j ≡ Some x → ⊥) → valued w names j ≡ pos 0
  zero_at j h = elim (past_or_there names j) [
    | inl t ↦ ap (λ (p : Option Term). w (unwrap_or p (number (pos 0)))) t.1 ∙ only.others t.0 (λ e. h (t.1 ∙ ap Some e))
    | inr e ↦ zero_past j e
  ]

  once : (i : ℕ) → (valued w names i ≡ pos 0) ⊎ ((valued w names i ≡ pos 1) × ((j : ℕ) → (j ≡ i → ⊥) → valued w names j ≡ pos 0))
  once i = elim (past_or_there names i) [
    | inr e ↦ inl (zero_past i e)
    | inl t ↦ elim (same_or_not t.0 x) [
      | inr n ↦ inl (ap (λ (p : Option Term). w (unwrap_or p (number (pos 0)))) t.1 ∙ only.others t.0 n)
      | inl s ↦ inr ((ap (λ (p : Option Term). w (unwrap_or p (number (pos 0)))) (t.1 ∙ ap Some s) ∙ only.one), (λ j n. zero_at j (λ e. n (distinct j i x e (t.1 ∙ ap Some s)))))
    ]
  ]

  pub one_is : (i j : ℕ) → slice_get names i ≡ Some x → valued w names j ≡ only_at i j
  one_is i j e = elim (nat_or_not i j) [
    | inl s ↦ ap (λ (p : Option Term). w (unwrap_or p (number (pos 0)))) (subst (λ (k : ℕ). slice_get names k ≡ Some x) s e) ∙ (only.one ∙ (sym (only_itself i) ∙ ap (only_at i) s))
    | inr n ↦ zero_at j (λ q. n (distinct i j x e q)) ∙ sym (let g : only_at i j ≡ pos 0 = grind (arith, nat_tests) in g)
  ]

pub narrow_of_read : (names : List Term) → AreDistinct names → (t : Term) (lin : Lin) → IsReadAs names t lin → IsNarrow t
narrow_of_read names distinct t lin h = record {
  coefficients = λ n c.
      let e : n ≡ value (valued c.values names) lin.form = omega (arith, ints, c.is, h.worth c.values, constant_is names t lin h) in
      subst (λ (z : ℤ). unsigned_abs z ≤ 2 ^ 31) (sym e) (one_value 0 (valued c.values names) lin.form h.bounded.sized.sorted.rises h.bounded.sized.within (once names distinct c.term c.opaque c.values c.only));
  constant = subst (λ (z : ℤ). unsigned_abs z ≤ 2 ^ 94) (sym (constant_is names t lin h)) h.bounded.constant;
}

-- ---- coefficients that are too large

pub only_of : (x : Term) → Values
only_of x t = elim (same_or_not t x) [ inl e ↦ pos 1 | inr n ↦ pos 0 ]

pub is_only : (x : Term) → IsOnly x (only_of x)
unfolding only_of
is_only x = record {
  one = elim (same_or_not x x) as (λ s. elim s [ inl e ↦ pos 1 | inr n ↦ pos 0 ] ≡ pos 1) [ inl e ↦ refl | inr n ↦ absurd (n refl) ];
  others = λ t n. elim (same_or_not t x) as (λ s. elim s [ inl e ↦ pos 1 | inr m ↦ pos 0 ] ≡ pos 0) [ inl e ↦ absurd (n e) | inr m ↦ refl ];
}

-- a number of what the term is worth over its numbers is one of the term
module _ (names : List Term) (distinct : AreDistinct names) (opaque : (i : ℕ) (x : Term) → slice_get names i ≡ Some x → is_opaque x ≡ true) (t : Term) (F : (ℕ → ℤ) → ℤ)
    (agree : (u v : ℕ → ℤ) → ((i : ℕ) → i < length names → u i ≡ v i) → F u ≡ F v) (worth : (w : Values) → F (valued w names) ≡ reading w t) where
  none_is : F (λ i. pos 0) ≡ constant_of t
  none_is = agree (λ i. pos 0) (valued (λ u. pos 0) names) (λ i p. refl) ∙ worth (λ u. pos 0)

  at_term : (i : ℕ) (x : Term) → slice_get names i ≡ Some x → IsCoefficient t (F (only_at i) -ℤ F (λ j. pos 0))
  at_term i x e = record {
    term = x;
    opaque = opaque i x e;
    values = only_of x;
    only = is_only x;
    is = λ k. (agree (only_at i) (valued (only_of x) names) (λ j p. sym (one_is names distinct x (opaque i x e) (only_of x) (is_only x) i j e)) ∙ worth (only_of x)) k -ℤ none_is k;
  }

  past_end : (i : ℕ) → slice_get names i ≡ None → F (only_at i) -ℤ F (λ j. pos 0) ≡ pos 0
  past_end i e =
      let same : F (only_at i) ≡ F (λ j. pos 0) = agree (only_at i) (λ j. pos 0) (λ j p. elim (nat_or_not i j) [
        | inl s ↦ let h = is_there names j p in let q : slice_get names j ≡ None = subst (λ (k : ℕ). slice_get names k ≡ None) s e in cc
        | inr n ↦ let g : only_at i j ≡ pos 0 = grind (arith, nat_tests) in g
      ]) in
      omega (arith, ints, same)

  pub wide_of : (coefficient : ℕ → ℤ) (c : ℤ) → ((i : ℕ) → coefficient i ≡ F (only_at i) -ℤ F (λ j. pos 0)) → c ≡ F (λ j. pos 0) → (n : ℤ) → IsTooWide (IsOneOf coefficient) c n → IsTooWide (IsCoefficient t) (constant_of t) n
  wide_of coefficient c same rest n h = record {
    wide = h.wide;
    is = h.is;
    how = elim h.how [
      | inr p ↦ inr (p.0 ∙ (rest ∙ none_is), p.1)
      | inl p ↦ elim (past_or_there names p.0.0) [
        | inl x ↦ inl (subst (IsCoefficient t) (sym (p.0.1 ∙ same p.0.0)) (at_term p.0.0 x.0 x.1), p.1)
        | inr e ↦ let z : h.wide ≡ pos 0 = p.0.1 ∙ (same p.0.0 ∙ past_end p.0.0 e) in
            let k : 2 ^ 31 < unsigned_abs (pos 0) = subst (λ (y : ℤ). 2 ^ 31 < unsigned_abs y) z p.1 in absurd (omega (arith, k))
      ]
    ];
  }
