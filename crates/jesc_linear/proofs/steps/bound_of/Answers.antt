use Rattle.std.proofs.Common.{◌+ℤ◌, ◌*ℤ◌, FitsSigned, arith, ap, ◌∙◌}
use mir.Syntax.{w128}
use Rattle.std.specs.Int.{int_div_euclid}
use Rattle.std.proofs.lemmas.Int.{ints, to_z-of_z}
use Rattle.jesc_linear.proofs.Sizes.{sum_within}
use Rattle.jesc_linear.proofs.steps.bound_of.Goals as goal

pub returns : goal.returns
returns c =
    let fa : FitsSigned w128 c.args.step.now.a = omega (arith, ints) in
    let fb : FitsSigned w128 c.args.step.now.b = omega (arith, ints) in
    let fd : FitsSigned w128 c.args.step.now.d = omega (arith, ints) in
    let f1 : FitsSigned w128 c.args.first.now.bound = omega (arith, ints) in
    let f2 : FitsSigned w128 c.args.second.now.bound = omega (arith, ints) in
    let fl : FitsSigned w128 c.scaled_bound.result = record { sfits = c.scaled_bound.type_inv } in
    let fr : FitsSigned w128 c.scaled_bound-2.result = record { sfits = c.scaled_bound-2.type_inv } in
    let fs : FitsSigned w128 (c.scaled_bound.result +ℤ c.scaled_bound-2.result) = sum_within c.scaled_bound.result c.scaled_bound-2.result c.scaled_bound.ensures.size c.scaled_bound-2.ensures.size in
    let fq : FitsSigned w128 c.div_euclid.result = record { sfits = c.div_euclid.type_inv } in
    let left = simp to_z-of_z at c.scaled_bound.ensures.value in
    let right = simp to_z-of_z at c.scaled_bound-2.ensures.value in
    let quotient = simp to_z-of_z at c.div_euclid.ensures in
    to_z-of_z w128 c.div_euclid.result fq ∙ quotient
    ∙ ap (λ x. int_div_euclid (x +ℤ c.scaled_bound-2.result) c.args.step.now.d) left
    ∙ ap (λ y. int_div_euclid (c.args.step.now.a *ℤ c.args.first.now.bound +ℤ y) c.args.step.now.d) right
