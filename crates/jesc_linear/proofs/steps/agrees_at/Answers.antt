use Rattle.std.proofs.Common.{◌≡◌, ◌+ℤ◌, ◌*ℤ◌, FitsSigned, arith, ap, ◌∙◌}
use mir.Syntax.{w128, w64}
use Rattle.std.proofs.lemmas.Int.{ints, to_z-of_z}
use Rattle.jesc_linear.proofs.Sizes.{sum_is_test}
use Rattle.jesc_linear.specs.Forms.{coefficient_of}
use Rattle.jesc_linear.proofs.steps.agrees_at.Goals as goal

pub overflow_add-result : goal.overflow_add-result
overflow_add-result c = omega (arith, ints, c.scaled_coefficient-left.ensures.size, c.scaled_coefficient-right.ensures.size)

pub returns : goal.returns
returns c =
    let fa : FitsSigned w128 c.args.step.now.a = omega (arith, ints) in
    let fb : FitsSigned w128 c.args.step.now.b = omega (arith, ints) in
    let fd : FitsSigned w128 c.args.step.now.d = omega (arith, ints) in
    let f1 : FitsSigned w64 c.coefficient.result = record { sfits = c.coefficient.type_inv } in
    let f2 : FitsSigned w64 c.coefficient-2.result = record { sfits = c.coefficient-2.type_inv } in
    let f3 : FitsSigned w64 c.coefficient-3.result = record { sfits = c.coefficient-3.type_inv } in
    let fl : FitsSigned w128 c.scaled_coefficient-left.result = record { sfits = c.scaled_coefficient-left.type_inv } in
    let fr : FitsSigned w128 c.scaled_coefficient-right.result = record { sfits = c.scaled_coefficient-right.type_inv } in
    let fm : FitsSigned w128 c.scaled_coefficient-made.result = record { sfits = c.scaled_coefficient-made.type_inv } in
    let fs : FitsSigned w128 (c.scaled_coefficient-left.result +ℤ c.scaled_coefficient-right.result) = omega (arith, ints, c.scaled_coefficient-left.ensures.size, c.scaled_coefficient-right.ensures.size) in
    let cf : c.coefficient.result ≡ coefficient_of c.args.first.now.form c.args.term = c.coefficient.ensures ∙ ap (λ f. coefficient_of f c.args.term) c.as_slice.ensures in
    let cg : c.coefficient-2.result ≡ coefficient_of c.args.second.now.form c.args.term = c.coefficient-2.ensures ∙ ap (λ f. coefficient_of f c.args.term) c.as_slice-2.ensures in
    let ch : c.coefficient-3.result ≡ coefficient_of c.args.step.now.row.form c.args.term = c.coefficient-3.ensures ∙ ap (λ f. coefficient_of f c.args.term) c.as_slice-3.ensures in
    let left = simp to_z-of_z at c.scaled_coefficient-left.ensures.value in
    let right = simp to_z-of_z at c.scaled_coefficient-right.ensures.value in
    let made = simp to_z-of_z at c.scaled_coefficient-made.ensures.value in
    sum_is_test _ _ _ _ _ _ fl fr fm fs
    (left ∙ ap (λ x. c.args.step.now.a *ℤ x) cf) (right ∙ ap (λ x. c.args.step.now.b *ℤ x) cg) (made ∙ ap (λ x. c.args.step.now.d *ℤ x) ch)
