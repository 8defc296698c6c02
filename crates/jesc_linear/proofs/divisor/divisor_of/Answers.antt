use Rattle.std.proofs.Common.{◌≡◌, ◌<◌, ◌≤◌, ◌^◌, ℕ, pos, take, length, get_or, inl, inr, sym, ap, subst, ◌∙◌, arith, FitsSigned}
use mir.Syntax.{w128}
use Rattle.std.specs.Prelude.{unsigned_abs}
use Rattle.std.specs.Int.{IsGcd}
use Rattle.std.proofs.lemmas.Int.{to_z-of_z, to_z_pos, fits_signed_from_abs}
use Rattle.std.proofs.lemmas.List.{take_more, take_all, nil_from_length}
use Rattle.std.proofs.lemmas.Bool.{cases_lt}
use Rattle.std.proofs.lemmas.Nat.Gcd.{le_of_dvd}
use Rattle.jesc_linear.specs.Forms.{Form}
use Rattle.jesc_linear.specs.Divisors as spec
use Rattle.jesc_linear.proofs.Divisors.{IsDivisor, no_divisor, next_divisor, positive_divisor, positive_size, divisor_is, some_part}
use Rattle.jesc_linear.proofs.divisor.divisor_of.Goals as goal

pub loop-part-init : goal.loop-part-init
loop-part-init c = record { divisor = no_divisor; positive = λ p. p; small = omega arith }

pub loop-part-preserved : goal.loop-part-preserved
loop-part-preserved c =
    let form = c.args.form.now in
    let k = c.loop-part.part-index in
    let part = get_or form k (pos 0, 0) in
    let short : unsigned_abs part.0 ≤ 2 ^ 63 = c.requires.sizes k (pos 0, 0) c.loop-part-test.true in
    let some = positive_size part.0 (c.requires.nonzero k (pos 0, 0) c.loop-part-test.true) in
    let fits : FitsSigned w128 part.0 = fits_signed_from_abs w128 part.0 (omega (arith, short)) in
    let is : c.unsigned_abs.result ≡ unsigned_abs part.0 = c.unsigned_abs.ensures.value ∙ ap unsigned_abs (to_z-of_z w128 part.0 fits) in
    let g = c.common_divisor-divisor.result in
    let common : IsGcd c.loop-part.divisor (unsigned_abs part.0) g = subst (λ (a : ℕ). IsGcd c.loop-part.divisor a g) is c.common_divisor-divisor.ensures in
    let most = le_of_dvd {m = g} {n = unsigned_abs part.0} some common.1 in
    record {
      divisor = subst (λ (f : Form). IsDivisor f g) (sym (take_more form k (pos 0, 0) c.loop-part-test.true)) (next_divisor (take k form) c.loop-part.divisor g part c.loop-part.invariant.divisor common);
      positive = λ p. positive_divisor g (unsigned_abs part.0) common.1 some;
      small = omega (arith, most, short);
    }

none_left : (f : Form) → length f ≡ 0 → spec.divisor_of f ≡ 1
none_left f e = ap spec.divisor_of (nil_from_length f e)

pub returns-then-divisor-eq0 : goal.returns-then-divisor-eq0
returns-then-divisor-eq0 c =
    let none : length c.args.form.now ≡ 0 = elim (cases_lt 0 c.loop-part.part-index) [
      | inl some ↦ absurd (let p = c.loop-part.invariant.positive some in omega (arith, p, c.if-divisor-eq0.true))
      | inr e ↦ omega (arith, e, c.loop-part-test.false)
    ] in
    sym (ap pos (none_left c.args.form.now none))

pub returns : goal.returns
returns c =
    let form = c.args.form.now in
    let d = c.loop-part.divisor in
    let whole : IsDivisor form d = subst (λ (f : Form). IsDivisor f d) (take_all c.loop-part.part-index form c.loop-part-test.false) c.loop-part.invariant.divisor in
    let positive : 0 < d = omega (arith, c.if-divisor-eq0.false) in
    let some : 0 < length form = some_part form d positive whole in
    let first = positive_size (get_or form 0 (pos 0, 0)).0 (c.requires.nonzero 0 (pos 0, 0) some) in
    let small = c.loop-part.invariant.small in
    to_z_pos w128 d (omega (arith, small)) ∙ sym (ap pos (divisor_is form d some positive first whole))
