use Rattle.std.proofs.Common.{◌^◌, ◌*ℤ◌, FitsSigned, w64, arith}
use mir.Syntax.{w128}
use Rattle.std.proofs.lemmas.Int.{to_z-of_z, fits_signed_mul, unsigned_abs-mul}
use Rattle.std.proofs.Math.Nat.{mul-le-mul}
use Rattle.jesc_linear.proofs.Sizes.{fits_wider}
use Rattle.jesc_linear.proofs.pairs.scaled_bound.Goals as goal

pub overflow_mul-result : goal.overflow_mul-result
overflow_mul-result c =
    let a = c.args.factor in
    let x = c.args.bound in
    let fa : FitsSigned w64 a = c.ranges.factor in
    let wa : FitsSigned w128 a = fits_wider a fa in
    let fx : FitsSigned w128 x = c.ranges.bound in
    let product : FitsSigned w128 (a *ℤ x) = fits_signed_mul w128 a x (2 ^ 31) (2 ^ 94) c.requires.factor c.requires.bound (omega arith) in
    simp to_z-of_z product

pub returns-clause-value : goal.returns-clause-value
returns-clause-value c =
    let a = c.args.factor in
    let x = c.args.bound in
    let fa : FitsSigned w64 a = c.ranges.factor in
    let wa : FitsSigned w128 a = fits_wider a fa in
    let fx : FitsSigned w128 x = c.ranges.bound in
    let product : FitsSigned w128 (a *ℤ x) = fits_signed_mul w128 a x (2 ^ 31) (2 ^ 94) c.requires.factor c.requires.bound (omega arith) in
    simp to_z-of_z

pub returns-clause-size : goal.returns-clause-size
returns-clause-size c =
    let a = c.args.factor in
    let x = c.args.bound in
    let fa : FitsSigned w64 a = c.ranges.factor in
    let wa : FitsSigned w128 a = fits_wider a fa in
    let fx : FitsSigned w128 x = c.ranges.bound in
    let product : FitsSigned w128 (a *ℤ x) = fits_signed_mul w128 a x (2 ^ 31) (2 ^ 94) c.requires.factor c.requires.bound (omega arith) in
    simp to_z-of_z (omega (arith, unsigned_abs-mul a x, mul-le-mul c.requires.factor c.requires.bound))
