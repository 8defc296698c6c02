use Rattle.jesc_operands.specs.laws.Subtypes.{is_throwable_exactly}
use Rattle.jesc_operands.proofs.law.throwable_is_decided.Goals as goal

pub returns : goal.returns
returns c = λ classes fields methods t lawful p. is_throwable_exactly classes fields methods lawful t p
