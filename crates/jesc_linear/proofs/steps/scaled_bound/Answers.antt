use Rattle.std.proofs.Common.{◌^◌, ◌*ℤ◌, FitsSigned, arith}
use mir.Syntax.{w128}
use Rattle.std.proofs.lemmas.Int.{to_z-of_z, fits_signed_mul, unsigned_abs-mul}
use Rattle.std.proofs.Math.Nat.{mul-le-mul}
use Rattle.jesc_linear.proofs.steps.scaled_bound.Goals as goal

pub returns-clause-value : goal.returns-clause-value
returns-clause-value c =
    let a = c.args.factor in
    let x = c.args.bound in
    let fa : FitsSigned w128 a = c.ranges.factor in
    let fx : FitsSigned w128 x = c.ranges.bound in
    let product : FitsSigned w128 (a *ℤ x) = fits_signed_mul w128 a x (2 ^ 31) (2 ^ 94) c.requires.factor c.requires.bound (omega arith) in
    simp to_z-of_z

pub returns-clause-size : goal.returns-clause-size
returns-clause-size c =
    let a = c.args.factor in
    let x = c.args.bound in
    let fa : FitsSigned w128 a = c.ranges.factor in
    let fx : FitsSigned w128 x = c.ranges.bound in
    let product : FitsSigned w128 (a *ℤ x) = fits_signed_mul w128 a x (2 ^ 31) (2 ^ 94) c.requires.factor c.requires.bound (omega arith) in
    simp to_z-of_z (omega (arith, unsigned_abs-mul a x, mul-le-mul c.requires.factor c.requires.bound))
