use Rattle.jesc_operands.specs.laws.Subtypes.{fits_exactly}
use Rattle.jesc_operands.proofs.law.fits_is_decided.Goals as goal

pub returns : goal.returns
returns c = λ classes fields methods s t lawful p. fits_exactly classes fields methods lawful s t p
