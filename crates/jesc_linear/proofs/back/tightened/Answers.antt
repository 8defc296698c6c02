use Rattle.std.proofs.Common.{◌≡◌, ◌≤ℤ◌, ◌-ℤ◌, ℤ, pos, neg_ℤ, Option, FitsSigned, sym, ap, ◌∙◌, arith}
use mir.Syntax.{w64, w128}
use Rattle.std.specs.Prelude.{unsigned_abs}
use Rattle.std.specs.Int.{int_div_euclid}
use Rattle.std.proofs.lemmas.Int.{ints, to_z-of_z}
use Rattle.jesc_linear.specs.Elimination as spec
use Rattle.jesc_linear.specs.Tables.{entry_of}
use Rattle.jesc_linear.specs.Limits.{side_in, limits_in}
use Rattle.jesc_linear.proofs.Sizes.{fits_wider}
use Rattle.jesc_linear.proofs.Allowing.{tightened_below, negated, at_most_zero}
use Rattle.jesc_linear.proofs.back.tightened.Goals as goal

pub returns-else-coefficient-gt0 : goal.returns-else-coefficient-gt0
returns-else-coefficient-gt0 c =
    let k = c.args.coefficient in
    let left = c.args.left in
    let limits = c.args.limits in
    let q = c.quotient-value.result in
    let f64 : FitsSigned w64 k = c.ranges.coefficient in
    let fk : FitsSigned w128 k = fits_wider k f64 in
    let fl : FitsSigned w128 left = c.ranges.left in
    let fa : FitsSigned w128 c.abs.result = record { sfits = c.abs.type_inv } in
    let fq : FitsSigned w128 q = record { sfits = c.quotient-value.type_inv } in
    let small = simp to_z-of_z at c.quotient-value.ensures.size in
    let fn : FitsSigned w128 (pos 0 -ℤ q) = omega (arith, ints, c.requires) in
    let size = simp to_z-of_z at c.abs.ensures.value in
    let quotient = simp to_z-of_z at c.quotient-value.ensures.value in
    let low : k ≤ℤ pos 0 = at_most_zero k (simp to_z-of_z at c.if-coefficient-gt0.false) in
    let value : pos 0 -ℤ q ≡ neg_ℤ (int_div_euclid left (pos (unsigned_abs k))) = negated q ∙ ap neg_ℤ (quotient ∙ ap (int_div_euclid left) size) in
    λ log term e.
    let joined : Option spec.Limit → spec.Limits = λ side. record { least = side; greatest = side_in log limits.greatest } in
    let side = simp to_z-of_z at (c.greater.ensures log) in
    ap joined side ∙ (ap (λ (v : ℤ). joined (spec.greater (side_in log limits.least) (v, entry_of log c.args.slot))) value
    ∙ sym (tightened_below term (entry_of log c.args.slot) left (limits_in log limits) k e low))
