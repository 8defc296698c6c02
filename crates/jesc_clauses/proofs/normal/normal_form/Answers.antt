use Rattle.std.proofs.Common.{◌≡◌, ◌≢◌, ◌+◌, zero, suc, negsuc, ℕ, ◌≤◌, ◌^◌, ℤ, pos, sym, ap, ◌∙◌, subst, arith, FitsSigned, to_z, of_z, w64}
use Rattle.std.proofs.lemmas.Int.{ints, to_z-of_z, fits_signed_from_abs}
use Rattle.std.proofs.Math.IntN.{◌-ℤ◌, neg_ℤ}
use Rattle.std.specs.Prelude.{◌≤ℤ◌, ◌<ℤ◌, unsigned_abs}
use Rattle.std.specs.Int.{int_div_euclid, w128}
use Rattle.jesc_clauses.specs.Normals.{scaled, IsFirstPositive}
use Rattle.jesc_clauses.specs.declared.normal.Normal.TheVariants.{Holds, Fails}
use Rattle.jesc_clauses.proofs.Exact.{normal_exact}
use Rattle.jesc_clauses.proofs.Normalized.{normal_over}
use Rattle.jesc_clauses.proofs.Turned.{abs_within, quotient_size, first_is, first_turned, form_turned, divides_turned, turned_back}
use Rattle.jesc_clauses.proofs.normal.normal_form.Goals as goal
use Rattle.jesc_clauses.proofs.normal.normal_form.Goals.{In_ok-form, In_ok-form-2}

low_fits : (d : ℤ) → pos 1 ≤ℤ d → d ≤ℤ pos (2 ^ 33) → FitsSigned w64 d
low_fits d p h = fits_signed_from_abs w64 d (let k = abs_within d (2 ^ 33) p h in omega (arith, k))

wide_fits : (d : ℤ) → pos 1 ≤ℤ d → d ≤ℤ pos (2 ^ 33) → FitsSigned w128 d
wide_fits d p h = fits_signed_from_abs w128 d (let k = abs_within d (2 ^ 33) p h in omega (arith, k))

-- the quotient is that of the definition, and fits
quotient_is : (b d q : ℤ) → pos 1 ≤ℤ d → d ≤ℤ pos (2 ^ 33) → unsigned_abs b ≤ 2 ^ 96 → q ≡ int_div_euclid (to_z w128 (of_z w128 b)) (to_z w128 (of_z w128 (to_z w64 (of_z w64 d)))) → to_z w128 (of_z w128 q) ≡ int_div_euclid b d
quotient_is b d q p h small e =
    let fits_b : FitsSigned w128 b = fits_signed_from_abs w128 b (omega (arith, small)) in
    let is : q ≡ int_div_euclid b d = e ∙ ((λ i. int_div_euclid (to_z-of_z w128 b fits_b i) (to_z w128 (of_z w128 (to_z-of_z w64 d (low_fits d p h) i)))) ∙ ap (int_div_euclid b) (to_z-of_z w128 d (wide_fits d p h))) in
    let size = quotient_size b d p in
    let fits_q : FitsSigned w128 (int_div_euclid b d) = fits_signed_from_abs w128 (int_div_euclid b d) (omega (arith, size, small)) in
    ap (λ x. to_z w128 (of_z w128 x)) is ∙ to_z-of_z w128 (int_div_euclid b d) fits_q

positive_first : (c : In_ok-form) → IsFirstPositive c.args.form.now
positive_first c =
    let part = c.in-Some.first.now in
    let short : unsigned_abs part.0 ≤ 2 ^ 33 = subst (λ (x : ℤ × ℕ). unsigned_abs x.0 ≤ 2 ^ 33) (sym c.in-Some.ensures.item.1) (c.requires.short 0 part c.in-Some.ensures.item.3.0) in
    let is : to_z w64 (of_z w64 part.0) ≡ part.0 = to_z-of_z w64 part.0 (fits_signed_from_abs w64 part.0 (omega (arith, short))) in
    let test = c.if-first-gt0.true in
    let p : pos 0 <ℤ part.0 = grind (arith, ints, is, test) in
    first_is c.args.form.now part c.in-Some.ensures.value p

pub returns-in_ok-form-clause-defined : goal.returns-in_ok-form-clause-defined
returns-in_ok-form-clause-defined c =
    let d = c.divisor_of-divisor.result in
    let h = c.divisor_of-divisor.ensures in
    let is64 : to_z w64 (of_z w64 d) ≡ d = to_z-of_z w64 d (low_fits d h.low h.high) in
    let times : scaled d c.in_ok-form.form ≡ c.args.form.now = subst (λ (k : ℤ). scaled k c.in_ok-form.form ≡ c.args.form.now) is64 c.in_ok-form.ensures in
    (d, (normal_over d c.args.form.now _ (omega (arith, ints, h.low)) times c.requires.form (positive_first c) h.greatest, quotient_is c.args.bound d c.div_euclid-bound.result h.low h.high c.requires.bound c.div_euclid-bound.ensures))

pub returns-in_ok-form-clause-exact : goal.returns-in_ok-form-clause-exact
returns-in_ok-form-clause-exact c = λ v. normal_exact v c.args.form.now c.args.bound (Holds _) (returns-in_ok-form-clause-defined c)

-- ---- where the first coefficient is negative

minus : (x : ℤ) → pos 0 -ℤ x ≡ neg_ℤ x
minus x = omega (arith, ints)

abs_turned : (x : ℤ) → unsigned_abs (neg_ℤ x) ≤ unsigned_abs x
abs_turned (pos zero) = omega arith
abs_turned (pos (suc n)) = omega arith
abs_turned (negsuc n) = omega arith

abs_minus : (x : ℤ) → unsigned_abs (pos 0 -ℤ x) ≤ unsigned_abs x
abs_minus x = subst (λ (y : ℤ). unsigned_abs y ≤ unsigned_abs x) (sym (minus x)) (abs_turned x)

abs_less_one : (x : ℤ) → unsigned_abs (neg_ℤ x -ℤ pos 1) ≤ unsigned_abs x + 1
abs_less_one (pos zero) = omega arith
abs_less_one (pos (suc n)) = omega arith
abs_less_one (negsuc n) =
    let e : pos (suc n) -ℤ pos 1 ≡ pos n = omega (arith, ints) in
    let k : n ≤ suc n + 1 = omega arith in
    subst (λ (y : ℤ). unsigned_abs y ≤ suc n + 1) (sym e) k

small_quotient : (b d : ℤ) → pos 1 ≤ℤ d → unsigned_abs b ≤ 2 ^ 96 → unsigned_abs (int_div_euclid b d) ≤ 2 ^ 96
small_quotient b d p h = let k = quotient_size b d p in omega (arith, k, h)

minus_fits : (x : ℤ) → unsigned_abs x ≤ 2 ^ 96 → FitsSigned w128 (pos 0 -ℤ x)
minus_fits x h = fits_signed_from_abs w128 (pos 0 -ℤ x) (let k = abs_minus x in omega (arith, k, h))

less_one_fits : (x : ℤ) → unsigned_abs x ≤ 2 ^ 96 → FitsSigned w128 (neg_ℤ x -ℤ pos 1)
less_one_fits x h = fits_signed_from_abs w128 (neg_ℤ x -ℤ pos 1) (let k = abs_less_one x in omega (arith, k, h))

quotient_here : (c : In_ok-form-2) → to_z w128 (of_z w128 c.div_euclid-bound.result) ≡ int_div_euclid c.args.bound c.divisor_of-divisor.result
quotient_here c = quotient_is c.args.bound c.divisor_of-divisor.result c.div_euclid-bound.result c.divisor_of-divisor.ensures.low c.divisor_of-divisor.ensures.high c.requires.bound c.div_euclid-bound.ensures

small_here : (c : In_ok-form-2) → unsigned_abs (int_div_euclid c.args.bound c.divisor_of-divisor.result) ≤ 2 ^ 96
small_here c = small_quotient c.args.bound c.divisor_of-divisor.result c.divisor_of-divisor.ensures.low c.requires.bound

minus_here : (c : In_ok-form-2) → to_z w128 (of_z w128 (pos 0 -ℤ to_z w128 (of_z w128 c.div_euclid-bound.result))) ≡ neg_ℤ (int_div_euclid c.args.bound c.divisor_of-divisor.result)
minus_here c =
    let q = int_div_euclid c.args.bound c.divisor_of-divisor.result in
    ap (λ x. to_z w128 (of_z w128 (pos 0 -ℤ x))) (quotient_here c) ∙ (to_z-of_z w128 (pos 0 -ℤ q) (minus_fits q (small_here c)) ∙ minus q)

pub overflow_sub-result : goal.overflow_sub-result
overflow_sub-result c = subst (λ (x : ℤ). FitsSigned w128 (pos 0 -ℤ x)) (sym (quotient_here c)) (minus_fits (int_div_euclid c.args.bound c.divisor_of-divisor.result) (small_here c))

pub overflow_sub-result-else-first-gt0 : goal.overflow_sub-result-else-first-gt0
overflow_sub-result-else-first-gt0 c = subst (λ (x : ℤ). FitsSigned w128 (x -ℤ pos 1)) (sym (minus_here c)) (less_one_fits (int_div_euclid c.args.bound c.divisor_of-divisor.result) (small_here c))

negative_first : (c : In_ok-form-2) → IsFirstPositive (scaled (neg_ℤ (pos 1)) c.args.form.now)
negative_first c =
    let part = c.in-Some.first.now in
    let within = c.in-Some.ensures.item.3.0 in
    let at = c.in-Some.ensures.item.1 in
    let short : unsigned_abs part.0 ≤ 2 ^ 33 = subst (λ (x : ℤ × ℕ). unsigned_abs x.0 ≤ 2 ^ 33) (sym at) (c.requires.short 0 part within) in
    let nonzero : part.0 ≢ pos 0 = subst (λ (x : ℤ × ℕ). x.0 ≢ pos 0) (sym at) (c.requires.form.nonzero 0 part within) in
    let is : to_z w64 (of_z w64 part.0) ≡ part.0 = to_z-of_z w64 part.0 (fits_signed_from_abs w64 part.0 (omega (arith, short))) in
    let test = c.if-first-gt0.false in
    let p : part.0 <ℤ pos 0 = grind (arith, ints, is, test, nonzero) in
    first_turned c.args.form.now part c.in-Some.ensures.value p

minus_divisor : (d : ℤ) → pos 1 ≤ℤ d → d ≤ℤ pos (2 ^ 33) → to_z w64 (of_z w64 (pos 0 -ℤ to_z w64 (of_z w64 d))) ≡ neg_ℤ d
minus_divisor d p h =
    let size = abs_within d (2 ^ 33) p h in
    let k = abs_minus d in
    ap (λ x. to_z w64 (of_z w64 (pos 0 -ℤ x))) (to_z-of_z w64 d (low_fits d p h)) ∙ (to_z-of_z w64 (pos 0 -ℤ d) (fits_signed_from_abs w64 (pos 0 -ℤ d) (omega (arith, size, k))) ∙ minus d)

pub returns-in_ok-form-2-clause-defined : goal.returns-in_ok-form-2-clause-defined
returns-in_ok-form-2-clause-defined c =
    let d = c.divisor_of-divisor.result in
    let h = c.divisor_of-divisor.ensures in
    let q = int_div_euclid c.args.bound d in
    let form = c.args.form.now in
    let times : scaled (neg_ℤ d) c.in_ok-form-2.form ≡ form = subst (λ (k : ℤ). scaled k c.in_ok-form-2.form ≡ form) (minus_divisor d h.low h.high) c.in_ok-form-2.ensures in
    let turned : scaled d c.in_ok-form-2.form ≡ scaled (neg_ℤ (pos 1)) form = sym (turned_back d c.in_ok-form-2.form) ∙ ap (scaled (neg_ℤ (pos 1))) times in (
      d,
      (
        normal_over d (scaled (neg_ℤ (pos 1)) form) _ (omega (arith, ints, h.low)) turned (form_turned form c.requires.form) (negative_first c) (λ e k. h.greatest e (divides_turned e form k)),
        ap (λ x. to_z w128 (of_z w128 (x -ℤ pos 1))) (minus_here c) ∙ to_z-of_z w128 (neg_ℤ q -ℤ pos 1) (less_one_fits q (small_here c)),
      ),
    )

pub returns-in_ok-form-2-clause-exact : goal.returns-in_ok-form-2-clause-exact
returns-in_ok-form-2-clause-exact c = λ v. normal_exact v c.args.form.now c.args.bound (Fails _) (returns-in_ok-form-2-clause-defined c)
