use Rattle.jesc_accept.proofs.Refuted.{refuted}
use Rattle.jesc_accept.proofs.law.formulas_are_refuted.Goals as goal

pub returns : goal.returns
returns c = refuted
