use Rattle.std.proofs.Common.{◌≤◌, ◌^◌, ◌+ℤ◌, FitsSigned, sym, ap, ◌∙◌, arith}
use mir.Syntax.{w64, w128}
use Rattle.std.proofs.lemmas.Int.{to_z-of_z}
use Rattle.std.specs.Prelude.{unsigned_abs}
use Rattle.jesc_linear.specs.Courses.{within}
use Rattle.jesc_linear.proofs.Sizes.{sum_within}
use Rattle.jesc_linear.proofs.Endings.{within_ok}
use Rattle.jesc_linear.proofs.back.plus.Goals as goal

pub returns-clause-course : goal.returns-clause-course
returns-clause-course c =
    let sum = c.args.sum in
    let product = c.product.result in
    let fs : FitsSigned w128 sum = c.ranges.sum in
    let fk : FitsSigned w64 c.args.coefficient = c.ranges.coefficient in
    let fv : FitsSigned w128 c.args.value = c.ranges.value in
    let fp : FitsSigned w128 product = record { sfits = c.product.type_inv } in
    let fm : FitsSigned w128 (sum +ℤ product) = sum_within sum product c.requires.sum c.product.ensures.size in
    let value = simp to_z-of_z at c.product.ensures.value in
    let size = simp to_z-of_z at c.unsigned_abs.ensures.value in
    let small : unsigned_abs (sum +ℤ product) ≤ 2 ^ 125 = omega arith in
    simp to_z-of_z (ap (λ x. within 125 (sum +ℤ x)) (sym value) ∙ within_ok 125 (sum +ℤ product) small)
