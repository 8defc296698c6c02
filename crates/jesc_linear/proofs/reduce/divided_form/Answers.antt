use Rattle.std.proofs.Common.{rules, ◌≡◌, ◌≤◌, ◌^◌, ◌++◌, [], ◌∷◌, ℕ, ℤ, pos, get_or, sym, ap, subst, ◌∙◌, arith, FitsSigned, to_z, of_z, w64}
use mir.Syntax.{w128}
use Rattle.std.specs.Prelude.{◌<ℤ◌, unsigned_abs, int_div, Ok}
use Rattle.std.proofs.lemmas.Int.{ints, to_z-of_z, quot_is, quot_fits, fits_signed_from_abs}
use Rattle.std.proofs.lemmas.List.{map_more}
use Rattle.jesc_linear.specs.Forms.{Form}
use Rattle.jesc_linear.specs.Courses.{within}
use Rattle.jesc_linear.proofs.Reductions.{passed, look_on}
use Rattle.jesc_linear.proofs.reduce.divided_form.Goals as goal

pub loop-part-preserved : goal.loop-part-preserved
loop-part-preserved c =
    let form = c.args.form.now in
    let k = c.loop-part.part-index in
    let d = to_z w128 (of_z w128 c.args.divisor) in
    let part = get_or form k (pos 0, 0) in
    let z = c.in_ok-coefficient.coefficient in
    let fits : FitsSigned w128 part.0 = search rules in
    let is : d ≡ c.args.divisor = to_z-of_z w128 c.args.divisor c.ranges.divisor in
    let low : pos 0 <ℤ c.args.divisor = omega (arith, ints, c.requires.divisor) in
    let quotient = quot_is w128 part.0 c.args.divisor fits c.ranges.divisor (quot_fits w128 part.0 c.args.divisor fits low) in
    let here : within 31 (int_div part.0 d) ≡ Ok z = subst (λ (x : ℤ). within 31 x ≡ Ok z) (quotient ∙ ap (int_div part.0) (sym is)) c.in_ok-coefficient.ensures in
    let pass = passed 31 (int_div part.0 d) z here in
    let small : unsigned_abs z ≤ 2 ^ 31 = subst (λ (x : ℤ). unsigned_abs x ≤ 2 ^ 31) (sym pass.0) pass.1 in
    let narrow : FitsSigned w64 z = fits_signed_from_abs w64 z (omega (arith, small)) in
    record {
      course = c.loop-part.invariant.course ∙ look_on d form k z c.loop-part-test.true here;
      quotient = c.in_ok-push.ensures.ok
          ∙ (ap (λ (x : ℤ). c.loop-part.quotient ++ (x, part.1) ∷ []) (to_z-of_z w64 z narrow ∙ pass.0)
          ∙ (ap (λ (f : Form). f ++ (int_div part.0 d, part.1) ∷ []) c.loop-part.invariant.quotient
          ∙ sym (map_more (λ (p : ℤ × ℕ). (int_div p.0 d, p.1)) form k (pos 0, 0) c.loop-part-test.true)));
    }
