use Rattle.std.proofs.Common.{◌≡◌, pos, ◌∙◌, subst}
use Rattle.std.specs.Prelude.{IfOk}
use Rattle.jesc_linear.specs.Forms.{Form}
use Rattle.jesc_linear.specs.Divisors.{divisor_of}
use Rattle.jesc_linear.proofs.given.quotient_of.Goals as goal

pub returns-clause-divisor : goal.returns-clause-divisor
returns-clause-divisor c =
    subst (λ (form : Form). IfOk c.reduced.result (λ quotient. quotient.divisor ≡ pos (divisor_of form)))
    (c.as_slice-2.ensures.value ∙ c.in_ok-wide.ensures ∙ c.as_slice.ensures) c.reduced.ensures.divisor
