use Rattle.std.proofs.Common.{◌≡◌, ◌≤◌, ◌^◌, ◌++◌, [], ◌∷◌, get_or, pos, sym, ap, ◌∙◌, arith, FitsSigned, to_z, of_z, w64}
use Rattle.std.proofs.lemmas.Int.{to_z-of_z, fits_signed_from_abs, quot_is}
use Rattle.std.proofs.lemmas.List.{take_more}
use Rattle.std.proofs.Math.IntN.{◌*ℤ◌}
use Rattle.std.specs.Prelude.{unsigned_abs, int_div}
use Rattle.jesc_clauses.specs.Normals.{scaled}
use Rattle.jesc_clauses.proofs.Divisors.{exact_quotient, quotient_small, divides_at, scaled_push}
use Rattle.jesc_clauses.proofs.normal.divided.Goals as goal

pub loop-part-preserved : goal.loop-part-preserved
loop-part-preserved c =
    let form = c.args.form.now in
    let k = c.loop-part.part-index in
    let d = c.args.divisor in
    let part = get_or form k (pos 0, 0) in
    let short : unsigned_abs part.0 ≤ 2 ^ 33 = c.requires.short k (pos 0, 0) c.loop-part-test.true in
    let fits : FitsSigned w64 part.0 = fits_signed_from_abs w64 part.0 (omega (arith, short)) in
    let fits_d : FitsSigned w64 d = c.ranges.divisor in
    let is_d : to_z w64 (of_z w64 d) ≡ d = to_z-of_z w64 d fits_d in
    let divides = divides_at (unsigned_abs d) form k (pos 0, 0) c.requires.divides c.loop-part-test.true in
    let small = quotient_small part.0 d c.requires.some divides in
    let fits_q : FitsSigned w64 (int_div part.0 d) = fits_signed_from_abs w64 (int_div part.0 d) (omega (arith, short, small)) in
    let quotient = quot_is w64 part.0 d fits fits_d fits_q in
    let exact = exact_quotient part.0 d divides in
    ap (scaled (to_z w64 (of_z w64 d))) c.in_ok-push.ensures.ok
    ∙ (scaled_push (to_z w64 (of_z w64 d)) c.loop-part.over _
    ∙ ((λ i. c.loop-part.invariant i ++ (((λ j. is_d j *ℤ quotient j) ∙ exact) i, part.1) ∷ []) ∙ sym (take_more form k (pos 0, 0) c.loop-part-test.true)))
