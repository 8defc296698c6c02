use Rattle.jesc_operands.specs.laws.Decided.{turns_exactly}
use Rattle.jesc_operands.proofs.law.turns_is_decided.Goals as goal

pub returns : goal.returns
returns c = turns_exactly
