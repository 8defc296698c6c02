use Rattle.jesc_operands.specs.laws.Decided.{makes_exactly}
use Rattle.jesc_operands.proofs.law.makes_is_decided.Goals as goal

pub returns : goal.returns
returns c = λ classes fields methods kind s t r lawful p q. makes_exactly classes fields methods lawful kind s t r p q
