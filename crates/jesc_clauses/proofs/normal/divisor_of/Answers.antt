use Rattle.std.proofs.Common.{◌≡◌, ◌≢◌, refl, ℕ, ◌<◌, ◌≤◌, ◌^◌, ℤ, pos, take, length, get_or, sym, subst, ap, ◌∙◌, arith, [], ◌∷◌, FitsSigned, to_z, w64}
use Rattle.std.proofs.lemmas.Int.{ints, to_z-of_z, to_z_pos, fits_signed_from_abs}
use Rattle.std.proofs.lemmas.List.{take_more, take_all}
use Rattle.std.proofs.lemmas.Nat.Gcd.{dvd-zero}
use Rattle.std.specs.Prelude.{unsigned_abs}
use Rattle.std.specs.Int.{IsGcd, ◌∣◌}
use Rattle.jesc_linear.specs.Forms.{Form}
use Rattle.jesc_clauses.specs.Normals.{Divides}
use Rattle.jesc_clauses.proofs.Divisors.{Divisor, next_divisor, next_bounds}
use Rattle.jesc_clauses.proofs.normal.divisor_of.Goals as goal
use Rattle.jesc_clauses.proofs.normal.divisor_of.Goals.{After-loop-part}

pub loop-part-init : goal.loop-part-init
loop-part-init c = record { divisor = record { divides = tt; greatest = λ e h. dvd-zero e }; positive = λ p. p; small = omega arith }

pub loop-part-preserved : goal.loop-part-preserved
loop-part-preserved c =
    let form = c.args.form.now in
    let k = c.loop-part.part-index in
    let part = get_or form k (pos 0, 0) in
    let short : unsigned_abs part.0 ≤ 2 ^ 33 = c.requires.short k (pos 0, 0) c.loop-part-test.true in
    let nonzero : part.0 ≢ pos 0 = c.requires.form.nonzero k (pos 0, 0) c.loop-part-test.true in
    let fits : FitsSigned w64 part.0 = fits_signed_from_abs w64 part.0 (omega (arith, short)) in
    let is : c.unsigned_abs.result ≡ unsigned_abs part.0 = c.unsigned_abs.ensures.value ∙ ap unsigned_abs (to_z-of_z w64 part.0 fits) in
    let g : IsGcd c.loop-part.divisor (unsigned_abs part.0) c.common_divisor-divisor.result = subst (λ (a : ℕ). IsGcd c.loop-part.divisor a c.common_divisor-divisor.result) is c.common_divisor-divisor.ensures in
    let bounds = next_bounds c.loop-part.divisor c.common_divisor-divisor.result part.0 g nonzero short in
    record {
      divisor = subst (λ (f : Form). Divisor f c.common_divisor-divisor.result) (sym (take_more form k (pos 0, 0) c.loop-part-test.true)) (next_divisor (take k form) c.loop-part.divisor c.common_divisor-divisor.result part c.loop-part.invariant.divisor g);
      positive = λ p. bounds.0;
      small = bounds.1;
    }

whole : (c : After-loop-part) → Divisor c.args.form.now c.loop-part.divisor
whole c = subst (λ (f : Form). Divisor f c.loop-part.divisor) (take_all c.loop-part.part-index c.args.form.now c.loop-part-test.false) c.loop-part.invariant.divisor

is_pos : (c : After-loop-part) → to_z w64 c.loop-part.divisor ≡ pos c.loop-part.divisor
is_pos c = to_z_pos w64 c.loop-part.divisor (let s = c.loop-part.invariant.small in omega (arith, s))

is_some : (f : Form) → f ≢ [] → 0 < length f
is_some [] h = absurd (h refl)
is_some (x ∷ f) h = omega arith

pub returns-clause-greatest : goal.returns-clause-greatest
returns-clause-greatest c = λ d h. subst (λ (z : ℤ). d ∣ unsigned_abs z) (sym (is_pos c)) ((whole c).greatest d h)

pub returns-clause-divides : goal.returns-clause-divides
returns-clause-divides c = subst (λ (z : ℤ). Divides (unsigned_abs z) c.args.form.now) (sym (is_pos c)) (whole c).divides

pub returns-clause-low : goal.returns-clause-low
returns-clause-low c =
    let some = is_some c.args.form.now c.requires.some in
    let p : 0 < c.loop-part.divisor = c.loop-part.invariant.positive (omega (arith, some, c.loop-part-test.false)) in
    omega (arith, ints, is_pos c, p)
