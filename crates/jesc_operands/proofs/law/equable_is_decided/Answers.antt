use Rattle.jesc_operands.specs.laws.Decided.{are_equable_exactly}
use Rattle.jesc_operands.proofs.law.equable_is_decided.Goals as goal

pub returns : goal.returns
returns c = λ classes fields methods s t lawful p q. are_equable_exactly classes fields methods lawful s t p q
