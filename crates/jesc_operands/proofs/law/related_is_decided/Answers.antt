use Rattle.jesc_operands.specs.laws.Decided.{are_related_exactly}
use Rattle.jesc_operands.proofs.law.related_is_decided.Goals as goal

pub returns : goal.returns
returns c = λ classes fields methods s t lawful p q. are_related_exactly classes fields methods lawful s t p q
