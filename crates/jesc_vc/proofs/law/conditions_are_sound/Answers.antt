use Rattle.jesc_vc.proofs.Whole.{asked_sound}
use Rattle.jesc_vc.proofs.law.conditions_are_sound.Goals as goal

pub returns : goal.returns
returns c = asked_sound
