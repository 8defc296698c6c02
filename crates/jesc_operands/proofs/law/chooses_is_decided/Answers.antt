use Rattle.jesc_operands.specs.laws.Decided.{chooses_exactly}
use Rattle.jesc_operands.proofs.law.chooses_is_decided.Goals as goal

pub returns : goal.returns
returns c = λ classes fields methods s t r lawful p q. chooses_exactly classes fields methods lawful s t r p q
