-- A normal form says what its comparison says.
use Rattle.std.proofs.Common.{◌≡◌, ℕ, Bool, true, false, not, [], ◌∷◌, ℤ, pos, negsuc, refl, sym, ap, ◌∙◌, arith}
use Rattle.std.proofs.lemmas.Int.{ints}
use Rattle.std.proofs.Math.IntN.{◌+ℤ◌, ◌-ℤ◌, ◌*ℤ◌, neg_ℤ, *ℤ_comm, zero-*ℤ, suc_ℤ-*ℤ}
use Rattle.std.specs.Prelude.{◌≤ℤ◌, ◌<ℤ◌, int_le}
use Rattle.std.specs.Int.{int_div_euclid}
use Rattle.jesc_linear.specs.Forms.{Form, value}
use Rattle.jesc_clauses.specs.declared.normal.Normal.{Normal}
use Rattle.jesc_clauses.specs.declared.normal.Normal.TheVariants.{Constant, Holds, Fails}
use Rattle.jesc_clauses.specs.Normals.{scaled, IsNormalOf, is_so}
use Rattle.jesc_linear.proofs.Whole.{times_over_sum, sum_under_times, times_times, keeps_order}
use Rattle.jesc_clauses.proofs.Rounding.{quotient_is_greatest, quotient_multiple}

pub value_scaled : (v : ℕ → ℤ) (k : ℤ) (f : Form) → value v (scaled k f) ≡ k *ℤ value v f
value_scaled v k [] = omega (arith, ints, *ℤ_comm k (pos 0), zero-*ℤ k)
value_scaled v k (part ∷ rest) =
    omega (arith, ints, value_scaled v k rest, times_times k part.0 (v part.1), sum_under_times k (part.0 *ℤ v part.1) (value v rest))

-- two tests that say the same
same_test : (a b : Bool) → (a ≡ true → b ≡ true) → (b ≡ true → a ≡ true) → a ≡ b
same_test true b f g = sym (f refl)
same_test false true f g = g refl
same_test false false f g = refl

le_true : (x y : ℤ) → x ≤ℤ y → int_le x y ≡ true
le_true x y h = grind (arith, ints)

true_le : (x y : ℤ) → int_le x y ≡ true → x ≤ℤ y
true_le x y h = grind (arith, ints)

-- at most the rounded quotient, exactly where the multiple is at most the number
pub rounded_exact : (d s b : ℤ) → pos 0 <ℤ d → int_le s (int_div_euclid b d) ≡ int_le (d *ℤ s) b
rounded_exact d s b p =
    let one : pos 1 ≤ℤ d = omega (arith, ints) in
    same_test (int_le s (int_div_euclid b d)) (int_le (d *ℤ s) b)
    (λ h. le_true (d *ℤ s) b (let k = keeps_order d s (int_div_euclid b d) (omega (arith, ints)) (true_le s (int_div_euclid b d) h) in let m = quotient_multiple d b one in omega (arith, ints, k, m)))
    (λ h. le_true s (int_div_euclid b d) (quotient_is_greatest d s b one (true_le (d *ℤ s) b h)))

turned : (q s : ℤ) → not (int_le s (neg_ℤ q -ℤ pos 1)) ≡ int_le (neg_ℤ s) q
turned q s = grind (arith, ints)

-- minus a number, as a product and under a product
pub minus_one_times : (x : ℤ) → neg_ℤ (pos 1) *ℤ x ≡ neg_ℤ x
minus_one_times x = omega (arith, ints, times_over_sum (negsuc 0) (pos 1) x, zero-*ℤ x, suc_ℤ-*ℤ (pos 0) x)

pub times_minus : (d s : ℤ) → d *ℤ neg_ℤ s ≡ neg_ℤ (d *ℤ s)
times_minus d s =
    let none : s +ℤ neg_ℤ s ≡ pos 0 = omega (arith, ints) in
    omega (arith, ints, sum_under_times d s (neg_ℤ s), ap (λ x. d *ℤ x) none, *ℤ_comm d (pos 0), zero-*ℤ d)

pub normal_exact : (v : ℕ → ℤ) (form : Form) (bound : ℤ) (n : Normal) → IsNormalOf form bound n → is_so v n ≡ int_le (value v form) bound
normal_exact v form bound (Constant t) h = h.1 ∙ ap (λ (f : Form). int_le (value v f) bound) (sym h.0)
normal_exact v form bound (Holds atom) h =
    let d = h.0 in
    let over = h.1.0 in
    ap (int_le (value v atom.form)) h.1.1 ∙ (rounded_exact d (value v atom.form) bound over.positive
    ∙ ap (λ x. int_le x bound) (sym (value_scaled v d atom.form) ∙ ap (value v) over.times))
normal_exact v form bound (Fails atom) h =
    let d = h.0 in
    let over = h.1.0 in
    let q = int_div_euclid bound d in
    let s = value v atom.form in
    let e : d *ℤ s ≡ neg_ℤ (pos 1) *ℤ value v form = sym (value_scaled v d atom.form) ∙ (ap (value v) over.times ∙ value_scaled v (neg_ℤ (pos 1)) form) in
    ap (λ b. not (int_le s b)) h.1.1 ∙ (turned q s ∙ (rounded_exact d (neg_ℤ s) bound over.positive ∙ ap (λ x. int_le x bound) (times_minus d s ∙ omega (arith, ints, e, minus_one_times (value v form)))))
