use Rattle.jesc_linear.proofs.Sound.{no_solution}
use Rattle.jesc_linear.proofs.steps.check_steps.Goals as goal

pub returns-clause-sound : goal.returns-clause-sound
returns-clause-sound c = λ yes. no_solution _ _ (c.are_taken.ensures.0 yes)
