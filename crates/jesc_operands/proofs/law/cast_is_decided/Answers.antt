use Rattle.jesc_operands.specs.laws.Decided.{may_cast_exactly}
use Rattle.jesc_operands.proofs.law.cast_is_decided.Goals as goal

pub returns : goal.returns
returns c = λ classes fields methods s t lawful p q. may_cast_exactly classes fields methods lawful s t p q
