use Rattle.std.proofs.Common.{◌≡◌, ◌<◌, ◌≤◌, ◌^◌, ℕ, ℤ, pos, sym, subst, ◌∙◌, arith, FitsSigned, to_z, of_z}
use mir.Syntax.{w128}
use Rattle.std.specs.Prelude.{◌≤ℤ◌, unsigned_abs}
use Rattle.std.specs.Int.{IsNonZero}
use Rattle.std.proofs.lemmas.Int.{ints, to_z-of_z, fits_signed_from_abs}
use Rattle.jesc_linear.specs.Forms.{Form}
use Rattle.jesc_text.specs.declared.list.List.{List}
use Rattle.jesc_linear.specs.declared.reduce.Quotient.{Quotient}
use Rattle.jesc_linear.specs.Divisors.{divided, divisor_of}
use Rattle.jesc_linear.specs.Courses.{look_at_form, looked_at}
use Rattle.jesc_linear.proofs.Divisors.{divisor_positive}
use Rattle.jesc_linear.proofs.Reductions.{passed, quotients, stops_too, divided_stops, made_is_row}
use Rattle.jesc_linear.proofs.reduce.reduced.Goals as goal

-- the divisor as it is passed on
passed_on : (form : Form) (d : ℤ) → FitsSigned w128 d → d ≡ pos (divisor_of form) → to_z w128 (of_z w128 d) ≡ pos (divisor_of form)
passed_on form d fits e = to_z-of_z w128 d fits ∙ e

pub divided_form-requires : goal.divided_form-requires
divided_form-requires c =
    let fits : FitsSigned w128 c.divisor_of-divisor.result = record { sfits = c.divisor_of-divisor.type_inv } in
    let low = divisor_positive c.args.form.now in
    record { divisor = subst (λ (z : ℤ). pos 1 ≤ℤ z) (sym (passed_on c.args.form.now c.divisor_of-divisor.result fits c.divisor_of-divisor.ensures)) (omega (arith, ints, low)) }

pub returns-in_err-form-clause-course : goal.returns-in_err-form-clause-course
returns-in_err-form-clause-course c =
    let fits : FitsSigned w128 c.divisor_of-divisor.result = record { sfits = c.divisor_of-divisor.type_inv } in
    stops_too (List (ℤ × ℕ)) Quotient (λ q. tt) (λ q. q.row)
    (look_at_form (quotients (to_z w128 (of_z w128 c.divisor_of-divisor.result)) c.args.form.now))
    (looked_at (divided (record { form = c.args.form.now; bound = c.args.bound })))
    c.in_err-form.field-0.0 c.from_residual.result
    (λ ending e. divided_stops (record { form = c.args.form.now; bound = c.args.bound }) (to_z w128 (of_z w128 c.divisor_of-divisor.result)) ending
    (passed_on c.args.form.now c.divisor_of-divisor.result fits c.divisor_of-divisor.ensures) e)
    c.in_err-form.ensures.course c.from_residual.ensures.1

pub div_euclid-requires-clause-nonzero : goal.div_euclid-requires-clause-nonzero
div_euclid-requires-clause-nonzero c =
    let fits : FitsSigned w128 c.divisor_of-divisor.result = record { sfits = c.divisor_of-divisor.type_inv } in
    let low = divisor_positive c.args.form.now in
    let some : 0 < divisor_of c.args.form.now = omega (arith, low) in
    subst (λ (z : ℤ). IsNonZero w128 z) (sym (passed_on c.args.form.now c.divisor_of-divisor.result fits c.divisor_of-divisor.ensures)) some

pub returns-clause-row : goal.returns-clause-row
returns-clause-row c =
    let fits : FitsSigned w128 c.divisor_of-divisor.result = record { sfits = c.divisor_of-divisor.type_inv } in
    let bound = c.in_ok-bound.bound in
    let pass = passed 94 (to_z w128 (of_z w128 c.div_euclid.result)) bound c.in_ok-bound.ensures in
    let small : unsigned_abs bound ≤ 2 ^ 94 = subst (λ (z : ℤ). unsigned_abs z ≤ 2 ^ 94) (sym pass.0) pass.1 in
    let narrow : FitsSigned w128 bound = fits_signed_from_abs w128 bound (omega (arith, small)) in
    made_is_row c.args.form.now c.in_ok-form.form (to_z w128 (of_z w128 c.divisor_of-divisor.result)) (to_z w128 (of_z w128 bound))
    (passed_on c.args.form.now c.divisor_of-divisor.result fits c.divisor_of-divisor.ensures) c.requires.form
    c.in_ok-form.ensures.course c.in_ok-form.ensures.quotient
    (subst (λ (z : ℤ). unsigned_abs z ≤ 2 ^ 94) (sym (to_z-of_z w128 bound narrow)) small)
