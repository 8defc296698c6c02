use Rattle.jesc_linear.specs.laws.OneEnding.{one_outcome}
use Rattle.jesc_linear.proofs.law.one_outcome.Goals as goal

pub returns : goal.returns
returns c = one_outcome
