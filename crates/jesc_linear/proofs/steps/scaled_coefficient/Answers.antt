use Rattle.std.proofs.Common.{◌≤◌, ◌^◌, ◌*ℤ◌, FitsSigned, w64, arith}
use mir.Syntax.{w128}
use Rattle.std.specs.Prelude.{unsigned_abs}
use Rattle.std.proofs.lemmas.Int.{to_z-of_z, fits_signed_mul, unsigned_abs-mul}
use Rattle.jesc_linear.proofs.Sizes.{size_of_i64, fits_wider}
use Rattle.jesc_linear.proofs.steps.scaled_coefficient.Goals as goal

pub returns-clause-size : goal.returns-clause-size
returns-clause-size c =
    let a = c.args.factor in
    let x = c.args.coefficient in
    let fa : FitsSigned w128 a = c.ranges.factor in
    let fx : FitsSigned w64 x = c.ranges.coefficient in
    let wide : FitsSigned w128 x = fits_wider x fx in
    let small : unsigned_abs x ≤ 2 ^ 63 = size_of_i64 x fx in
    let product : FitsSigned w128 (a *ℤ x) = fits_signed_mul w128 a x (2 ^ 63) (2 ^ 63) c.requires small (omega arith) in
    simp to_z-of_z (grind (arith, unsigned_abs-mul a x))
