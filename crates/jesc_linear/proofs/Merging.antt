-- The form that two forms are added to, one term after the other.
use Rattle.std.proofs.Common.{◌≡◌, ◌≢◌, ◌==◌, Bool, true, false, ℕ, zero, suc, ◌+◌, ◌-◌, ◌<◌, ◌≤◌, ◌^◌, max, [], ◌∷◌, ◌++◌, length, ℤ, pos, ◌⊎◌, inl, inr, refl, sym, ap, ◌∙◌, subst, arith}
use Rattle.std.proofs.lemmas.Int.{ints, unsigned_abs-mul}
use Rattle.std.proofs.Math.Nat.{mul-le-mul}
use Rattle.std.proofs.lemmas.Bool.{cases_lt, eqb-true, eq-eqb}
use Rattle.std.proofs.lemmas.Bool.Decides.{nat_tests, Decides-int_eq}
use Rattle.std.proofs.lemmas.List.{append-nil}
use Rattle.std.proofs.lemmas.List.Elements.{All-nil, All-cons, All-head, All-tail}
use Rattle.std.proofs.Math.IntN.{◌+ℤ◌, ◌*ℤ◌, *ℤ-zero}
use Rattle.std.specs.Prelude.{unsigned_abs, All}
use Rattle.std.specs.Ordering.{int_eq}
use Rattle.jesc_linear.specs.Forms.{Form, RisesFrom, IsForm, IsNonzero, coefficient_of}
use Rattle.jesc_linear.specs.Steps.{IsNarrow}
use Rattle.jesc_linear.specs.Sums.{end_of, form_of, added}
use Rattle.jesc_linear.specs.Merges.{head_at, past, StartsFrom, IsFirst, with_part}
use Rattle.jesc_linear.proofs.Combined.{coefficient_before}

-- ---- a form of given coefficients

zero_test : (z : ℤ) → z ≡ pos 0 → int_eq z (pos 0) ≡ true
zero_test z e = (Decides-int_eq z (pos 0)).1 e

form_of_zeros : (C : ℕ → ℤ) (low n : ℕ) → ((t : ℕ) → low ≤ t → t < low + n → C t ≡ pos 0) → form_of C low n ≡ []
form_of_zeros C low zero h = refl
form_of_zeros C low (suc n) h =
    let e = zero_test (C low) (h low (omega arith) (omega arith)) in
    rw e (form_of_zeros C (suc low) n (λ t l k. h t (omega arith) (omega arith)))

-- n terms, and from `high` on the rest of the k
form_of_split : (C : ℕ → ℤ) (low n m k high : ℕ) → k ≡ n + m → high ≡ low + n → form_of C low k ≡ form_of C low n ++ form_of C high m
form_of_split C low zero m k high e h =
    let same : k ≡ m = omega arith in
    let start : low ≡ high = omega arith in
    ap (form_of C low) same ∙ ap (λ (x : ℕ). form_of C x m) start
form_of_split C low (suc n) m zero high e h = absurd (omega arith)
form_of_split C low (suc n) m (suc k) high e h = by (int_eq (C low) (pos 0)) refl (form_of_split C (suc low) n m k high (omega arith) (omega arith))
  where
    by : (b : Bool) → int_eq (C low) (pos 0) ≡ b → form_of C (suc low) k ≡ form_of C (suc low) n ++ form_of C high m → form_of C low (suc k) ≡ form_of C low (suc n) ++ form_of C high m
    by true t rest = rw t rest
    by false t rest = rw t (ap (λ (f : Form). (C low, low) ∷ f) rest)

-- one more term
pub form_of_next : (C : ℕ → ℤ) (n : ℕ) → form_of C 0 (n + 1) ≡ with_part (form_of C 0 n) (C n) n
form_of_next C n = form_of_split C 0 n 1 (n + 1) n refl (omega arith) ∙ by (int_eq (C n) (pos 0)) refl
  where
    by : (b : Bool) → int_eq (C n) (pos 0) ≡ b → form_of C 0 n ++ form_of C n 1 ≡ with_part (form_of C 0 n) (C n) n
    by true e = rw e (append-nil (form_of C 0 n))
    by false e = rw e refl

-- more terms, whose coefficients are 0
pub form_of_gap : (C : ℕ → ℤ) (m n : ℕ) → m ≤ n → ((t : ℕ) → m ≤ t → t < n → C t ≡ pos 0) → form_of C 0 n ≡ form_of C 0 m
form_of_gap C m n l h =
    form_of_split C 0 m (n - m) n m (omega arith) (omega arith)
    ∙ ap (λ (f : Form). form_of C 0 m ++ f) (form_of_zeros C m (n - m) (λ t p q. h t p (omega arith)))
    ∙ append-nil (form_of C 0 m)

-- ---- it is in order, and has these coefficients

form_of_rises : (C : ℕ → ℤ) (from low n : ℕ) → from ≤ low → RisesFrom from (form_of C low n)
form_of_rises C from low zero l = tt
form_of_rises C from low (suc n) l = by (int_eq (C low) (pos 0)) refl (form_of_rises C from (suc low) n (omega arith)) (form_of_rises C (low + 1) (suc low) n (omega arith))
  where
    by : (b : Bool) → int_eq (C low) (pos 0) ≡ b → RisesFrom from (form_of C (suc low) n) → RisesFrom (low + 1) (form_of C (suc low) n) → RisesFrom from (form_of C low (suc n))
    by true e later next = rw e later
    by false e later next = rw e (l, next)

-- what holds of each coefficient that isn't 0 holds of the form's
pub form_of_all : (P : ℤ × ℕ → Type 0) (C : ℕ → ℤ) (low n : ℕ) → ((t : ℕ) → C t ≢ pos 0 → P (C t, t)) → All P (form_of C low n)
form_of_all P C low zero h = All-nil P
form_of_all P C low (suc n) h = by (int_eq (C low) (pos 0)) refl (form_of_all P C (suc low) n h)
  where
    by : (b : Bool) → int_eq (C low) (pos 0) ≡ b → All P (form_of C (suc low) n) → All P (form_of C low (suc n))
    by true e later = rw e later
    by false e later = rw e (All-cons P (C low, low) (form_of C (suc low) n) (h low (λ z. let t = zero_test (C low) z in cc)) later)

pub form_of_is_form : (C : ℕ → ℤ) (low n : ℕ) → IsForm (form_of C low n)
form_of_is_form C low n = record { rises = form_of_rises C 0 low n (omega arith); nonzero = form_of_all IsNonzero C low n (λ t h. h) }

form_of_coefficient : (C : ℕ → ℤ) (low n t : ℕ) → low ≤ t → t < low + n → coefficient_of (form_of C low n) t ≡ C t
form_of_coefficient C low zero t l h = absurd (omega arith)
form_of_coefficient C low (suc n) t l h = elim (cases_lt low t) [
  | inl after ↦ later (int_eq (C low) (pos 0)) refl after (form_of_coefficient C (suc low) n t (omega arith) (omega arith))
  | inr same ↦ let e : low ≡ t = omega arith in subst (λ (u : ℕ). coefficient_of (form_of C low (suc n)) u ≡ C u) e (here (int_eq (C low) (pos 0)) refl)
]
  where
    later : (b : Bool) → int_eq (C low) (pos 0) ≡ b → low < t → coefficient_of (form_of C (suc low) n) t ≡ C t → coefficient_of (form_of C low (suc n)) t ≡ C t
    later true e p k = rw e k
    later false e p k = rw e (let other : low == t ≡ false = grind (arith, nat_tests) in rw other k)

    here : (b : Bool) → int_eq (C low) (pos 0) ≡ b → coefficient_of (form_of C low (suc n)) low ≡ C low
    here true e = rw e (coefficient_before (suc low) (form_of C (suc low) n) low (form_of_rises C (suc low) (suc low) n (omega arith)) (omega arith) ∙ sym ((Decides-int_eq (C low) (pos 0)).0 e))
    here false e = rw e (let same : low == low ≡ true = eq-eqb low low refl in rw same refl)

-- past the end of a form
pub coefficient_past : (f : Form) (t : ℕ) → end_of f ≤ t → coefficient_of f t ≡ pos 0
coefficient_past [] t l = refl
coefficient_past (part ∷ f) t l =
    let other : part.1 == t ≡ false = (let under : part.1 < t = omega arith in grind (arith, nat_tests)) in
    rw other (coefficient_past f t (omega arith))

past_form_of : (C : ℕ → ℤ) (low n t : ℕ) → low + n ≤ t → coefficient_of (form_of C low n) t ≡ pos 0
past_form_of C low zero t l = refl
past_form_of C low (suc n) t l = by (int_eq (C low) (pos 0)) refl (past_form_of C (suc low) n t (omega arith))
  where
    by : (b : Bool) → int_eq (C low) (pos 0) ≡ b → coefficient_of (form_of C (suc low) n) t ≡ pos 0 → coefficient_of (form_of C low (suc n)) t ≡ pos 0
    by true e later = rw e later
    by false e later = rw e (let other : low == t ≡ false = (let under : low < t = omega arith in grind (arith, nat_tests)) in rw other later)

-- ---- sums

abbrev pub summed : ℤ → Form → ℤ → Form → ℕ → ℤ
summed a f b g = λ term. a *ℤ coefficient_of f term +ℤ b *ℤ coefficient_of g term

summed_zero : (a : ℤ) (f : Form) (b : ℤ) (g : Form) (t : ℕ) → coefficient_of f t ≡ pos 0 → coefficient_of g t ≡ pos 0 → summed a f b g t ≡ pos 0
summed_zero a f b g t p q = omega (arith, ints, ap (λ x. a *ℤ x) p, ap (λ x. b *ℤ x) q, *ℤ-zero a, *ℤ-zero b)

summed_past : (a : ℤ) (f : Form) (b : ℤ) (g : Form) (t : ℕ) → max (end_of f) (end_of g) ≤ t → summed a f b g t ≡ pos 0
summed_past a f b g t l = summed_zero a f b g t (coefficient_past f t (omega arith)) (coefficient_past g t (omega arith))

pub added_is_form : (a : ℤ) (f : Form) (b : ℤ) (g : Form) → IsForm (added a f b g)
added_is_form a f b g = form_of_is_form (summed a f b g) 0 (max (end_of f) (end_of g))

pub added_coefficient : (a : ℤ) (f : Form) (b : ℤ) (g : Form) (t : ℕ) → coefficient_of (added a f b g) t ≡ a *ℤ coefficient_of f t +ℤ b *ℤ coefficient_of g t
added_coefficient a f b g t = elim (cases_lt t (max (end_of f) (end_of g))) [
  | inl under ↦ form_of_coefficient (summed a f b g) 0 (max (end_of f) (end_of g)) t (omega arith) (omega arith)
  | inr after ↦ past_form_of (summed a f b g) 0 (max (end_of f) (end_of g)) t (omega arith) ∙ sym (summed_past a f b g t after)
]

-- ---- the walk

-- what is left of a form where the terms below `low` are done
pub record IsRest (low : ℕ) (whole rest : Form) : Type 0 where
  pub rises : RisesFrom low rest
  pub narrow : All IsNarrow rest
  pub same : (t : ℕ) → low ≤ t → coefficient_of whole t ≡ coefficient_of rest t

pub record IsMerging (a : ℤ) (first0 : Form) (b : ℤ) (second0 : Form) (sum first second : Form) : Type 0 where
  pub low : ℕ
  pub so_far : sum ≡ form_of (summed a first0 b second0) 0 low
  pub left : IsRest low first0 first
  pub right : IsRest low second0 second

pub head_narrow : (f : Form) (t : ℕ) → All IsNarrow f → unsigned_abs (head_at f t) ≤ 2 ^ 31
head_narrow [] t all = omega arith
head_narrow (part ∷ f) t all = let h = All-head IsNarrow part f all in grind (arith, nat_tests)

first_from : (low : ℕ) (f : Form) (t : ℕ) → RisesFrom low f → IsFirst t f → low ≤ t
first_from low [] t r h = absurd h
first_from low (part ∷ f) t r h = omega (arith, r.0, h)

past_all : (P : ℤ × ℕ → Type 0) (f : Form) (t : ℕ) → All P f → All P (past f t)
past_all P [] t all = all
past_all P (part ∷ f) t all = by (part.1 == t) refl
  where
    by : (b : Bool) → part.1 == t ≡ b → All P (past (part ∷ f) t)
    by true e = rw e (All-tail P part f all)
    by false e = rw e all

past_rises : (low : ℕ) (f : Form) (t : ℕ) → RisesFrom low f → StartsFrom t f → RisesFrom (t + 1) (past f t)
past_rises low [] t r s = tt
past_rises low (part ∷ f) t r s = by (part.1 == t) refl
  where
    by : (b : Bool) → part.1 == t ≡ b → RisesFrom (t + 1) (past (part ∷ f) t)
    by true e = rw e (subst (λ (n : ℕ). RisesFrom (n + 1) f) (eqb-true part.1 t e) r.1)
    by false e = rw e ((let h : t + 1 ≤ part.1 = grind (arith, nat_tests, e, s) in h), r.1)

past_coefficient : (f : Form) (t u : ℕ) → t < u → coefficient_of f u ≡ coefficient_of (past f t) u
past_coefficient [] t u l = refl
past_coefficient (part ∷ f) t u l = by (part.1 == t) refl
  where
    other : part.1 ≡ t → part.1 == u ≡ false
    other e = grind (arith, nat_tests)

    by : (b : Bool) → part.1 == t ≡ b → coefficient_of (part ∷ f) u ≡ coefficient_of (past (part ∷ f) t) u
    by true e = rw e (let k = other (eqb-true part.1 t e) in rw k refl)
    by false e = rw e refl

starts_rises : (low : ℕ) (f : Form) (t : ℕ) → RisesFrom low f → StartsFrom t f → RisesFrom t f
starts_rises low [] t r s = tt
starts_rises low (part ∷ f) t r s = (s, r.1)

head_is : (low : ℕ) (f : Form) (t : ℕ) → RisesFrom low f → StartsFrom t f → coefficient_of f t ≡ head_at f t
head_is low [] t r s = refl
head_is low (part ∷ f) t r s = by (part.1 == t) refl
  where
    by : (b : Bool) → part.1 == t ≡ b → coefficient_of (part ∷ f) t ≡ head_at (part ∷ f) t
    by true e = rw e refl
    by false e = rw e (coefficient_before (part.1 + 1) f t r.1 (let h : t < part.1 + 1 = omega (arith, s) in h))

module _ (low : ℕ) (whole rest : Form) (h : IsRest low whole rest) (t : ℕ) (l : low ≤ t) (s : StartsFrom t rest) where
  rest_next : IsRest (t + 1) whole (past rest t)
  rest_next = record {
    rises = past_rises low rest t h.rises s;
    narrow = past_all IsNarrow rest t h.narrow;
    same = λ u k. h.same u (omega arith) ∙ past_coefficient rest t u (omega arith);
  }

  rest_here : coefficient_of whole t ≡ head_at rest t
  rest_here = h.same t l ∙ head_is low rest t h.rises s

  rest_before : (u : ℕ) → low ≤ u → u < t → coefficient_of whole u ≡ pos 0
  rest_before u k m = h.same u k ∙ coefficient_before t rest u (starts_rises low rest t h.rises s) m

pub merging_starts : (a : ℤ) (f : Form) (b : ℤ) (g : Form) → IsForm f → IsForm g → All IsNarrow f → All IsNarrow g → IsMerging a f b g [] f g
merging_starts a f b g i j n m = record {
  low = 0;
  so_far = refl;
  left = record { rises = i.rises; narrow = n; same = λ t l. refl };
  right = record { rises = j.rises; narrow = m; same = λ t l. refl };
}

module _ (a : ℤ) (first0 : Form) (b : ℤ) (second0 : Form) (sum first second : Form) (h : IsMerging a first0 b second0 sum first second) where
  module _ (t : ℕ) (one : IsFirst t first ⊎ IsFirst t second) (s : StartsFrom t first) (s2 : StartsFrom t second) where
    low_first : h.low ≤ t
    low_first = elim one [
      | inl x ↦ first_from h.low first t h.left.rises x
      | inr x ↦ first_from h.low second t h.right.rises x
    ]

    pub merging_next : IsMerging a first0 b second0 (with_part sum (a *ℤ head_at first t +ℤ b *ℤ head_at second t) t) (past first t) (past second t)
    merging_next = record {
      low = t + 1;
      so_far = sym (form_of_next (summed a first0 b second0) t ∙ (ap (λ (f : Form). with_part f (summed a first0 b second0 t) t) up_to ∙ ap (λ (x : ℤ). with_part sum x t) here));
      left = rest_next h.low first0 first h.left t low_first s;
      right = rest_next h.low second0 second h.right t low_first s2;
    }
      where
        up_to : form_of (summed a first0 b second0) 0 t ≡ sum
        up_to = form_of_gap (summed a first0 b second0) h.low t low_first (λ u k m. summed_zero a first0 b second0 u (rest_before h.low first0 first h.left t low_first s u k m) (rest_before h.low second0 second h.right t low_first s2 u k m)) ∙ sym h.so_far

        here : summed a first0 b second0 t ≡ a *ℤ head_at first t +ℤ b *ℤ head_at second t
        here = λ i. a *ℤ rest_here h.low first0 first h.left t low_first s i +ℤ b *ℤ rest_here h.low second0 second h.right t low_first s2 i

  pub merging_ends : first ≡ [] → second ≡ [] → sum ≡ added a first0 b second0
  merging_ends e e2 =
      let C = summed a first0 b second0 in
      let end = max (end_of first0) (end_of second0) in
      let n = max h.low end in
      let none = λ (t : ℕ) (l : h.low ≤ t) (k : t < n). summed_zero a first0 b second0 t (h.left.same t l ∙ ap (λ (f : Form). coefficient_of f t) e) (h.right.same t l ∙ ap (λ (f : Form). coefficient_of f t) e2) in
      h.so_far ∙ (sym (form_of_gap C h.low n (omega arith) none) ∙ form_of_gap C end n (omega arith) (λ t l k. summed_past a first0 b second0 t l))

-- ---- how much is left

pub past_length : (f : Form) (t : ℕ) → length (past f t) ≤ length f
past_length [] t = omega arith
past_length (part ∷ f) t = by (part.1 == t) refl
  where
    by : (b : Bool) → part.1 == t ≡ b → length (past (part ∷ f) t) ≤ length (part ∷ f)
    by true e = rw e (omega arith)
    by false e = rw e (omega arith)

past_shorter : (f : Form) (t : ℕ) → IsFirst t f → length (past f t) < length f
past_shorter [] t h = absurd h
past_shorter (part ∷ f) t h = rw (eq-eqb part.1 t (sym h)) (omega arith)

pub shorter : (f g : Form) (t : ℕ) → IsFirst t f ⊎ IsFirst t g → length (past f t) + length (past g t) < length f + length g
shorter f g t one = elim one [
  | inl x ↦ omega (arith, past_shorter f t x, past_length g t)
  | inr x ↦ omega (arith, past_length f t, past_shorter g t x)
]

-- ---- how large the sums are

pub coefficient_narrow : (f : Form) (t : ℕ) → All IsNarrow f → unsigned_abs (coefficient_of f t) ≤ 2 ^ 31
coefficient_narrow [] t all = omega arith
coefficient_narrow (part ∷ f) t all = by (part.1 == t) refl (coefficient_narrow f t (All-tail IsNarrow part f all))
  where
    by : (b : Bool) → part.1 == t ≡ b → unsigned_abs (coefficient_of f t) ≤ 2 ^ 31 → unsigned_abs (coefficient_of (part ∷ f) t) ≤ 2 ^ 31
    by true e h = rw e (All-head IsNarrow part f all)
    by false e h = rw e h

product_small : (a x : ℤ) → unsigned_abs a ≤ 2 ^ 31 → unsigned_abs x ≤ 2 ^ 31 → unsigned_abs (a *ℤ x) ≤ 2 ^ 62
product_small a x p q = omega (arith, unsigned_abs-mul a x, mul-le-mul p q)

sum_small : (x y : ℤ) → unsigned_abs x ≤ 2 ^ 62 → unsigned_abs y ≤ 2 ^ 62 → unsigned_abs (x +ℤ y) ≤ 2 ^ 63
sum_small x y p q = omega (arith, ints)

pub added_sizes : (a : ℤ) (f : Form) (b : ℤ) (g : Form) → unsigned_abs a ≤ 2 ^ 31 → unsigned_abs b ≤ 2 ^ 31 → All IsNarrow f → All IsNarrow g
    → All (λ part. unsigned_abs part.0 ≤ 2 ^ 63) (added a f b g)
added_sizes a f b g sa sb nf ng = form_of_all (λ part. unsigned_abs part.0 ≤ 2 ^ 63) (summed a f b g) 0 (max (end_of f) (end_of g))
    (λ t h. sum_small (a *ℤ coefficient_of f t) (b *ℤ coefficient_of g t)
    (product_small a (coefficient_of f t) sa (coefficient_narrow f t nf)) (product_small b (coefficient_of g t) sb (coefficient_narrow g t ng)))
