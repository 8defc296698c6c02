use Rattle.jesc_vc.proofs.Whole.{asked_listed}
use Rattle.jesc_vc.proofs.law.conditions_are_listed.Goals as goal

pub returns : goal.returns
returns c = asked_listed
