use Rattle.jesc_linear.specs.laws.OneEnding.{one_ending}
use Rattle.jesc_linear.proofs.law.one_ending.Goals as goal

pub returns : goal.returns
returns c = one_ending
