use Rattle.std.proofs.Common.{FitsSigned, arith, sym, ◌∙◌}
use mir.Syntax.{w128}
use Rattle.std.proofs.lemmas.Int.{ints}
use Rattle.jesc_linear.proofs.Sizes.{equality_test}
use Rattle.jesc_linear.proofs.steps.has_bound.Goals as goal

pub returns : goal.returns
returns c =
    let fits : FitsSigned w128 c.bound_of.result = record { sfits = c.bound_of.type_inv } in
    let fits_row : FitsSigned w128 c.args.step.now.row.bound = omega (arith, ints) in
    let test = equality_test c.bound_of.result c.args.step.now.row.bound fits fits_row in
    ((λ t. sym (test.0 t) ∙ c.bound_of.ensures), (λ e. test.1 (c.bound_of.ensures ∙ sym e)))
