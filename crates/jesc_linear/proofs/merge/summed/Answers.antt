use Rattle.std.proofs.Common.{◌+ℤ◌, FitsSigned, w64, arith}
use mir.Syntax.{w128}
use Rattle.std.proofs.lemmas.Int.{ints, to_z-of_z}
use Rattle.jesc_linear.proofs.merge.summed.Goals as goal

pub returns : goal.returns
returns c =
    let fa : FitsSigned w64 c.args.a = c.ranges.a in
    let fb : FitsSigned w64 c.args.b = c.ranges.b in
    let fl : FitsSigned w64 c.args.left = c.ranges.left in
    let fr : FitsSigned w64 c.args.right = c.ranges.right in
    let fp : FitsSigned w128 c.product.result = record { sfits = c.product.type_inv } in
    let fq : FitsSigned w128 c.product-2.result = record { sfits = c.product-2.type_inv } in
    let fs : FitsSigned w128 (c.product.result +ℤ c.product-2.result) = omega (arith, ints, c.product.ensures.size, c.product-2.ensures.size) in
    let left = simp to_z-of_z at c.product.ensures.value in
    let right = simp to_z-of_z at c.product-2.ensures.value in
    simp to_z-of_z (λ i. left i +ℤ right i)
