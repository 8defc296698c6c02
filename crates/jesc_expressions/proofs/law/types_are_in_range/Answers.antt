use Rattle.jesc_expressions.specs.laws.Ranges.{within}
use Rattle.jesc_expressions.proofs.law.types_are_in_range.Goals as goal

pub returns : goal.returns
returns c = λ s a e x known p. within s known a e x p
