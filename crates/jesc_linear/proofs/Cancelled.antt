-- The sum of an upper and a lower row: its form lacks the term, and has the sum of their values.
use Rattle.std.proofs.Common.{◌≡◌, ◌≢◌, ℕ, zero, suc, ◌*◌, ◌/◌, ◌%◌, ◌≤◌, ◌==◌, List, [], ◌∷◌, true, inl, inr, ℤ, pos, negsuc, refl, sym, ◌∙◌, ap, subst, arith}
use Rattle.std.proofs.lemmas.Bool.{cases_Bool, cases_eq, eq-eqb, true≢false, and_from}
use Rattle.std.proofs.lemmas.Nat.Gcd.{le_of_dvd, mod-eq-zero_of_dvd}
use Rattle.std.proofs.lemmas.Int.{ints}
use Rattle.std.proofs.Math.IntN.{◌+ℤ◌, ◌*ℤ◌, suc_ℤ-*ℤ, zero-*ℤ, pos-*ℤ-pos, pos-*ℤ-negsuc}
use Rattle.std.specs.Prelude.{◌<ℤ◌, unsigned_abs}
use Rattle.jesc_linear.specs.declared.rows.Row.{Row}
use Rattle.jesc_linear.specs.Forms.{Form, value, coefficient_of, RisesFrom, IsForm}
use Rattle.jesc_linear.specs.Divisors.{divides_all, greatest_up_to, divisor_of}
use Rattle.jesc_linear.specs.Sums.{added, multiplier, sum_of}
use Rattle.jesc_linear.proofs.Combined.{value_of_combined}
use Rattle.jesc_linear.proofs.Merging.{added_is_form, added_coefficient}
use Rattle.jesc_linear.proofs.Divisors.{divisor_positive, divisor_divides, positive_size}

-- ---- a combination of two forms

pub one_times : (x : ℤ) → pos 1 *ℤ x ≡ x
one_times x = omega (arith, ints, suc_ℤ-*ℤ (pos 0) x, zero-*ℤ x)

pub added_value : (v : ℕ → ℤ) (a : ℤ) (f : Form) (b : ℤ) (g : Form) → RisesFrom 0 f → RisesFrom 0 g → value v (added a f b g) ≡ a *ℤ value v f +ℤ b *ℤ value v g
added_value v a f b g rf rg = sym (one_times (value v (added a f b g))) ∙ value_of_combined v a f b g (pos 1) (added a f b g) rf rg (added_is_form a f b g).rises
    (λ t. one_times (coefficient_of (added a f b g) t) ∙ added_coefficient a f b g t)

-- ---- the multipliers

greatest_above : (limit e : ℕ) (numbers : List ℕ) → 1 ≤ e → e ≤ limit → divides_all e numbers ≡ true → e ≤ greatest_up_to limit numbers
greatest_above zero e numbers p l h = absurd (omega arith)
greatest_above (suc limit) e numbers p l h = elim (cases_Bool (divides_all (suc limit) numbers)) [
  | inl hit ↦ rw hit l
  | inr miss ↦
      let less : e ≡ suc limit → ⊥ = λ same. true≢false (sym h ∙ (ap (λ n. divides_all n numbers) same ∙ miss)) in
      rw miss (greatest_above limit e numbers p (elim (cases_eq e (suc limit)) [ inl same ↦ absurd (less same) | inr other ↦ omega (arith, other) ]) h)
]

abbrev divisor_of_both : ℤ → ℤ → ℕ
divisor_of_both x y = divisor_of ((x, 0) ∷ (y, 0) ∷ [])

no_greater : (x y : ℤ) → x ≢ pos 0 → y ≢ pos 0 → divisor_of_both x y ≤ divisor_of_both y x
no_greater x y some other =
    let g : ℕ = divisor_of_both x y in
    let divides = divisor_divides ((x, 0) ∷ (y, 0) ∷ []) in
    greatest_above (unsigned_abs y) g (unsigned_abs y ∷ unsigned_abs x ∷ []) (divisor_positive ((x, 0) ∷ (y, 0) ∷ []))
    (le_of_dvd (positive_size y other) divides.1.0)
    (and_from (unsigned_abs y % g == 0) (divides_all g (unsigned_abs x ∷ [])) (eq-eqb (unsigned_abs y % g) 0 (mod-eq-zero_of_dvd g divides.1.0))
    (and_from (unsigned_abs x % g == 0) true (eq-eqb (unsigned_abs x % g) 0 (mod-eq-zero_of_dvd g divides.0)) refl))

quotient_exact : (g n : ℕ) → 1 ≤ g → n % g ≡ 0 → g * (n / g) ≡ n
quotient_exact g n p e = grind (arith, e)

-- times the common divisor they are the sizes of the two coefficients
pub multipliers : (x y : ℤ) → x ≢ pos 0 → y ≢ pos 0 → (g : ℕ) × (1 ≤ g) × (g * multiplier x y ≡ unsigned_abs y) × (g * multiplier y x ≡ unsigned_abs x)
multipliers x y some other =
    let g : ℕ = divisor_of_both x y in
    let h : ℕ = divisor_of_both y x in
    let one : 1 ≤ g = divisor_positive ((x, 0) ∷ (y, 0) ∷ []) in
    let divides = divisor_divides ((x, 0) ∷ (y, 0) ∷ []) in
    let less : g ≤ h = no_greater x y some other in
    let more : h ≤ g = no_greater y x other some in
    let same : h ≡ g = omega arith in (
      g,
      one,
      quotient_exact g (unsigned_abs y) one (mod-eq-zero_of_dvd g divides.1.0),
      subst (λ d. g * (unsigned_abs x / d) ≡ unsigned_abs x) (sym same) (quotient_exact g (unsigned_abs x) one (mod-eq-zero_of_dvd g divides.0)),
    )

crossed : (g m n : ℕ) → m * (g * n) ≡ n * (g * m)
crossed g m n = grind arith

cancel : (g m n upper lower : ℕ) → g * m ≡ lower → g * n ≡ upper → m * upper ≡ n * lower
cancel g m n upper lower p q = ap (λ x. m * x) (sym q) ∙ (crossed g m n ∙ ap (λ x. n * x) p)

cancelled : (x y : ℤ) → pos 0 <ℤ x → y <ℤ pos 0 → pos (multiplier x y) *ℤ x +ℤ pos (multiplier y x) *ℤ y ≡ pos 0
cancelled (pos n) (negsuc m) p q =
    let g = multipliers (pos n) (negsuc m) (λ e. let k : pos 0 <ℤ pos 0 = subst (λ x. pos 0 <ℤ x) e p in omega (arith, ints, k)) (λ e. cc) in
    let same = cancel g.0 (multiplier (pos n) (negsuc m)) (multiplier (negsuc m) (pos n)) n (suc m) g.2 g.3 in
    omega (arith, ints, pos-*ℤ-pos (multiplier (pos n) (negsuc m)) n, pos-*ℤ-negsuc (multiplier (negsuc m) (pos n)) m, same)
cancelled (pos n) (pos m) p q = absurd (omega (arith, ints, q))
cancelled (negsuc n) y p q = absurd (omega (arith, ints, p))

-- ---- the sum

pub sum_form : (term : ℕ) (upper lower : Row) → IsForm (sum_of term upper lower).form
sum_form term upper lower =
    let x : ℤ = coefficient_of upper.form term in
    let y : ℤ = coefficient_of lower.form term in
    added_is_form (pos (multiplier x y)) upper.form (pos (multiplier y x)) lower.form

pub sum_lacks : (term : ℕ) (upper lower : Row) → pos 0 <ℤ coefficient_of upper.form term → coefficient_of lower.form term <ℤ pos 0
    → coefficient_of (sum_of term upper lower).form term ≡ pos 0
sum_lacks term upper lower p q =
    let x : ℤ = coefficient_of upper.form term in
    let y : ℤ = coefficient_of lower.form term in
    added_coefficient (pos (multiplier x y)) upper.form (pos (multiplier y x)) lower.form term ∙ cancelled x y p q

pub sum_value : (v : ℕ → ℤ) (term : ℕ) (upper lower : Row) → RisesFrom 0 upper.form → RisesFrom 0 lower.form
    → value v (sum_of term upper lower).form ≡ pos (multiplier (coefficient_of upper.form term) (coefficient_of lower.form term)) *ℤ value v upper.form
    +ℤ pos (multiplier (coefficient_of lower.form term) (coefficient_of upper.form term)) *ℤ value v lower.form
sum_value v term upper lower ru rl =
    let x : ℤ = coefficient_of upper.form term in
    let y : ℤ = coefficient_of lower.form term in
    added_value v (pos (multiplier x y)) upper.form (pos (multiplier y x)) lower.form ru rl
