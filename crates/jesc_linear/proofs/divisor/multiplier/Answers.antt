use Rattle.std.proofs.Common.{◌≡◌, ◌/◌, ◌*◌, ◌%◌, ◌<◌, ◌≤◌, ◌^◌, ℕ, ℤ, pos, sym, ap, subst, ◌∙◌, arith, FitsSigned, to_z, w64}
use Rattle.std.specs.Prelude.{unsigned_abs}
use Rattle.std.specs.Int.{IsGcd}
use Rattle.std.proofs.lemmas.Int.{to_z-of_z, to_z_pos}
use Rattle.std.proofs.lemmas.Nat.Gcd.{mod-eq-zero_of_dvd}
use Rattle.jesc_linear.proofs.Divisors.{positive_divisor, positive_size, divisor_of_two, natural_quotient}
use Rattle.jesc_linear.proofs.divisor.multiplier.Goals as goal
use Rattle.jesc_linear.proofs.divisor.multiplier.Goals.{After-common_divisor-divisor}

exact_natural : (n d : ℕ) → n % d ≡ 0 → 0 < d → n ≡ d * (n / d)
exact_natural n d e p = grind (arith, e)

record Facts (c : After-common_divisor-divisor) : Type 0 where
  own : c.unsigned_abs.result ≡ unsigned_abs c.args.own
  other : c.unsigned_abs-size.result ≡ unsigned_abs c.args.other
  positive : 0 < c.common_divisor-divisor.result
  low : 1 ≤ unsigned_abs c.args.other / c.common_divisor-divisor.result
  high : unsigned_abs c.args.other / c.common_divisor-divisor.result ≤ 2 ^ 31
  common : IsGcd (unsigned_abs c.args.own) (unsigned_abs c.args.other) c.common_divisor-divisor.result

facts : (c : After-common_divisor-divisor) → Facts c
facts c =
    let d = c.common_divisor-divisor.result in
    let own : c.unsigned_abs.result ≡ unsigned_abs c.args.own = c.unsigned_abs.ensures.value ∙ ap unsigned_abs (to_z-of_z w64 c.args.own c.ranges.own) in
    let other : c.unsigned_abs-size.result ≡ unsigned_abs c.args.other = c.unsigned_abs-size.ensures.value ∙ ap unsigned_abs (to_z-of_z w64 c.args.other c.ranges.other) in
    let common : IsGcd (unsigned_abs c.args.own) (unsigned_abs c.args.other) d =
    subst (λ (m : ℕ). IsGcd m (unsigned_abs c.args.other) d) own (subst (λ (n : ℕ). IsGcd c.unsigned_abs.result n d) other c.common_divisor-divisor.ensures) in
    let some = positive_size c.args.other c.requires.other in
    let positive : 0 < d = positive_divisor d (unsigned_abs c.args.other) common.1 some in
    let exact = exact_natural (unsigned_abs c.args.other) d (mod-eq-zero_of_dvd d common.1) positive in
    let bounds = natural_quotient d (unsigned_abs c.args.other / d) (unsigned_abs c.args.other) exact some in
    let most : unsigned_abs c.args.other ≤ 2 ^ 31 = c.requires.other_size in
    record { own = own; other = other; positive = positive; low = bounds.0; high = omega (arith, most, bounds.1); common = common }

pub nonzero_div-result : goal.nonzero_div-result
nonzero_div-result c = let f = facts c in omega (arith, f.positive)

quotient_is : (c : After-common_divisor-divisor) → to_z w64 (c.unsigned_abs-size.result / c.common_divisor-divisor.result) ≡ pos (unsigned_abs c.args.other / c.common_divisor-divisor.result)
quotient_is c =
    let f = facts c in
    let high = f.high in
    ap (λ (n : ℕ). to_z w64 (n / c.common_divisor-divisor.result)) f.other ∙ to_z_pos w64 (unsigned_abs c.args.other / c.common_divisor-divisor.result) (omega (arith, high))

pub overflow_cast-result : goal.overflow_cast-result
overflow_cast-result c =
    let f = facts c in
    let d = c.common_divisor-divisor.result in
    let high = f.high in
    subst (λ (n : ℕ). FitsSigned w64 (pos (n / d))) (sym f.other) (record { sfits = omega (arith, high) })

pub returns-clause-exact : goal.returns-clause-exact
returns-clause-exact c =
    let f = facts c in
    quotient_is c ∙ ap (λ (n : ℕ). pos (unsigned_abs c.args.other / n)) (sym (divisor_of_two c.args.own c.args.other c.common_divisor-divisor.result c.requires.own f.positive f.common))

pub returns-clause-low : goal.returns-clause-low
returns-clause-low c = subst (λ (z : ℤ). 1 ≤ unsigned_abs z) (sym (quotient_is c)) (facts c).low

pub returns-clause-high : goal.returns-clause-high
returns-clause-high c = subst (λ (z : ℤ). unsigned_abs z ≤ 2 ^ 31) (sym (quotient_is c)) (facts c).high
