-- The value of a form as a sum over all terms below a number, and so the value of a combination.
use Rattle.std.proofs.Common.{◌≡◌, ◌≢◌, ℕ, zero, suc, ◌+◌, ◌≤◌, ◌<◌, max, ◌⊎◌, inl, inr, [], ◌∷◌, ℤ, pos, refl, sym, ◌∙◌, ap, subst, arith}
use Rattle.std.proofs.lemmas.Int.{ints}
use Rattle.std.proofs.lemmas.Bool.Decides.{nat_tests}
use Rattle.std.proofs.Math.IntN.{◌+ℤ◌, ◌*ℤ◌, zero-*ℤ, *ℤ-zero}
use Rattle.jesc_linear.specs.Forms.{Form, value, coefficient_of, RisesFrom}
use Rattle.jesc_linear.specs.Steps.{Combines}
use Rattle.jesc_linear.proofs.Whole.{times_over_sum, sum_under_times, times_times}

-- the sum of F over the numbers below n
abbrev total_below : ℕ → (ℕ → ℤ) → ℤ
total_below zero F = pos 0
total_below (suc n) F = total_below n F +ℤ F n

equal_totals : (n : ℕ) (F G : ℕ → ℤ) → ((t : ℕ) → F t ≡ G t) → total_below n F ≡ total_below n G
equal_totals zero F G h = refl
equal_totals (suc n) F G h = let rest = equal_totals n F G h in let here = h n in omega (arith, ints, rest, here)

same_total_below : (n : ℕ) (F G : ℕ → ℤ) → ((t : ℕ) → t < n → F t ≡ G t) → total_below n F ≡ total_below n G
same_total_below zero F G h = refl
same_total_below (suc n) F G h =
    let rest = same_total_below n F G (λ t l. h t (omega arith)) in
    let here = h n (omega arith) in
    omega (arith, ints, rest, here)

below_or_last : (k n : ℕ) → k < suc n → (k < n) ⊎ (k ≡ n)
below_or_last zero zero l = inr refl
below_or_last zero (suc n) l = inl (omega arith)
below_or_last (suc k) zero l = absurd (omega arith)
below_or_last (suc k) (suc n) l = elim (below_or_last k n (omega arith)) [ inl h ↦ inl (omega arith) | inr h ↦ inr (ap suc h) ]

-- where G is F with x more at one place
total_changed : (n : ℕ) (F G : ℕ → ℤ) (k : ℕ) (x : ℤ) → k < n → G k ≡ F k +ℤ x
    → ((t : ℕ) → t ≢ k → G t ≡ F t) → total_below n G ≡ total_below n F +ℤ x
total_changed zero F G k x l here others = absurd (omega arith)
total_changed (suc n) F G k x l here others = elim (below_or_last k n l) [
  | inl h ↦ let rest = total_changed n F G k x h here others in
      let last = others n (omega arith) in
      omega (arith, ints, rest, last)
  | inr h ↦ let rest = same_total_below n F G (λ t below. sym (others t (omega arith))) in
      let last = subst (λ t. G t ≡ F t +ℤ x) h here in
      omega (arith, ints, rest, last)
]

total_of_none : (n : ℕ) (v : ℕ → ℤ) → total_below n (λ t. pos 0 *ℤ v t) ≡ pos 0
total_of_none zero v = refl
total_of_none (suc n) v = omega (arith, ints, total_of_none n v, zero-*ℤ (v n))

total_scaled : (n : ℕ) (a : ℤ) (F : ℕ → ℤ) → total_below n (λ t. a *ℤ F t) ≡ a *ℤ total_below n F
total_scaled zero a F = sym (*ℤ-zero a)
total_scaled (suc n) a F = omega (arith, ints, total_scaled n a F, sum_under_times a (total_below n F) (F n))

total_added : (n : ℕ) (F G : ℕ → ℤ) → total_below n (λ t. F t +ℤ G t) ≡ total_below n F +ℤ total_below n G
total_added zero F G = refl
total_added (suc n) F G = omega (arith, ints, total_added n F G)

-- a term before those of the form
pub coefficient_before : (low : ℕ) (f : Form) (t : ℕ) → RisesFrom low f → t < low → coefficient_of f t ≡ pos 0
coefficient_before low [] t r l = refl
coefficient_before low (p ∷ ps) t r l =
    let rest = coefficient_before (p.1 + 1) ps t r.1 (omega arith) in
    let after : t < p.1 = omega arith in
    grind (arith, nat_tests)

pub coefficient_here : (p : ℤ × ℕ) (ps : Form) → coefficient_of (p ∷ ps) p.1 ≡ p.0
coefficient_here p ps = grind (arith, nat_tests)

pub coefficient_other : (p : ℤ × ℕ) (ps : Form) (t : ℕ) → t ≢ p.1 → coefficient_of (p ∷ ps) t ≡ coefficient_of ps t
coefficient_other p ps t other = grind (arith, nat_tests)

-- the terms of a form are below n
abbrev TermsBelow : ℕ → Form → Type 0
TermsBelow n [] = Unit {0}
TermsBelow n (p ∷ ps) = (p.1 < n) × TermsBelow n ps

-- one more than the greatest term
abbrev past_last : Form → ℕ
past_last [] = 0
past_last (p ∷ ps) = max (p.1 + 1) (past_last ps)

below_more : (m n : ℕ) (f : Form) → m ≤ n → TermsBelow m f → TermsBelow n f
below_more m n [] l b = tt
below_more m n (p ∷ ps) l b = (omega arith, below_more m n ps l b.1)

all_below : (n : ℕ) (f : Form) → past_last f ≤ n → TermsBelow n f
all_below n [] l = tt
all_below n (p ∷ ps) l = (omega arith, all_below n ps (omega arith))

abbrev product_at : (ℕ → ℤ) → Form → ℕ → ℤ
product_at v f t = coefficient_of f t *ℤ v t

value_is_total : (v : ℕ → ℤ) (n low : ℕ) (f : Form) → RisesFrom low f → TermsBelow n f → value v f ≡ total_below n (product_at v f)
value_is_total v n low [] r b = sym (total_of_none n v)
value_is_total v n low (p ∷ ps) r b =
    let rest : value v ps ≡ total_below n (product_at v ps) = value_is_total v n (p.1 + 1) ps r.1 b.1 in
    let none : coefficient_of ps p.1 ≡ pos 0 = coefficient_before (p.1 + 1) ps p.1 r.1 (omega arith) in
    let here : product_at v (p ∷ ps) p.1 ≡ product_at v ps p.1 +ℤ p.0 *ℤ v p.1 =
    ap (λ c. c *ℤ v p.1) (coefficient_here p ps) ∙ omega (arith, ints, ap (λ c. c *ℤ v p.1) none, zero-*ℤ (v p.1)) in
    let whole = total_changed n (product_at v ps) (product_at v (p ∷ ps)) p.1 (p.0 *ℤ v p.1) b.0 here
    (λ t other. ap (λ c. c *ℤ v t) (coefficient_other p ps t other)) in
    omega (arith, ints, rest, whole)

-- a combination of forms has that combination of their values
pub value_of_combined : (v : ℕ → ℤ) (a : ℤ) (f : Form) (b : ℤ) (g : Form) (d : ℤ) (h : Form) → RisesFrom 0 f → RisesFrom 0 g → RisesFrom 0 h
    → Combines a f b g d h → d *ℤ value v h ≡ a *ℤ value v f +ℤ b *ℤ value v g
value_of_combined v a f b g d h rf rg rh c =
    let n : ℕ = past_last f + past_last g + past_last h in
    let vf = value_is_total v n 0 f rf (all_below n f (omega arith)) in
    let vg = value_is_total v n 0 g rg (all_below n g (omega arith)) in
    let vh = value_is_total v n 0 h rh (all_below n h (omega arith)) in
    let each = equal_totals n (λ t. d *ℤ product_at v h t) (λ t. a *ℤ product_at v f t +ℤ b *ℤ product_at v g t) (λ t.
    sym (times_times d (coefficient_of h t) (v t)) ∙ ap (λ x. x *ℤ v t) (c t)
    ∙ times_over_sum (a *ℤ coefficient_of f t) (b *ℤ coefficient_of g t) (v t)
    ∙ omega (arith, ints, times_times a (coefficient_of f t) (v t), times_times b (coefficient_of g t) (v t))) in
    ap (λ x. d *ℤ x) vh ∙ sym (total_scaled n d (product_at v h)) ∙ each
    ∙ total_added n (λ t. a *ℤ product_at v f t) (λ t. b *ℤ product_at v g t)
    ∙ omega (arith, ints, total_scaled n a (product_at v f), total_scaled n b (product_at v g), ap (λ x. a *ℤ x) vf, ap (λ x. b *ℤ x) vg)
