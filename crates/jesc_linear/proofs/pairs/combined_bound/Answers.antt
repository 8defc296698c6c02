use Rattle.std.proofs.Common.{◌+ℤ◌, FitsSigned, w64, arith}
use mir.Syntax.{w128}
use Rattle.std.proofs.lemmas.Int.{ints, to_z-of_z}
use Rattle.jesc_linear.proofs.pairs.combined_bound.Goals as goal

pub returns : goal.returns
returns c =
    let fa : FitsSigned w64 c.args.a = c.ranges.a in
    let fb : FitsSigned w64 c.args.b = c.ranges.b in
    let fl : FitsSigned w128 c.args.first = c.ranges.first in
    let fr : FitsSigned w128 c.args.second = c.ranges.second in
    let fp : FitsSigned w128 c.scaled_bound.result = record { sfits = c.scaled_bound.type_inv } in
    let fq : FitsSigned w128 c.scaled_bound-2.result = record { sfits = c.scaled_bound-2.type_inv } in
    let fs : FitsSigned w128 (c.scaled_bound.result +ℤ c.scaled_bound-2.result) = omega (arith, ints, c.scaled_bound.ensures.size, c.scaled_bound-2.ensures.size) in
    let left = simp to_z-of_z at c.scaled_bound.ensures.value in
    let right = simp to_z-of_z at c.scaled_bound-2.ensures.value in
    simp to_z-of_z (λ i. left i +ℤ right i)
