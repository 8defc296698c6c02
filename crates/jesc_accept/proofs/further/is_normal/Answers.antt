use Rattle.jesc_accept.proofs.Coprime.{normal_of_one, one_of_normal, one_test}
use Rattle.jesc_accept.proofs.further.is_normal.Goals as goal

pub returns : goal.returns
returns c =
    let test = one_test c.divisor_of.result c.divisor_of.ensures.low in (
      (λ t. normal_of_one c.args.form.now c.divisor_of.result (c.is_form.ensures.0 c.if-not-is_form.false) (c.starts_positive.ensures.0 c.if-not-starts_positive.false) (test.0 t) c.divisor_of.ensures.greatest),
      (λ h. test.1 (one_of_normal c.args.form.now c.divisor_of.result h c.divisor_of.ensures.low c.divisor_of.ensures.divides)),
    )
