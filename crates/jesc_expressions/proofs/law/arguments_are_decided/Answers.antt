use Rattle.jesc_expressions.specs.laws.Typing.{all_typed_exactly}
use Rattle.jesc_expressions.proofs.law.arguments_are_decided.Goals as goal

pub returns : goal.returns
returns c = λ s a es xs known. all_typed_exactly s known a es xs
