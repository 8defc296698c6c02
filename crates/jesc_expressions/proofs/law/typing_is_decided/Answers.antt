use Rattle.jesc_expressions.specs.laws.Typing.{typed_exactly}
use Rattle.jesc_expressions.proofs.law.typing_is_decided.Goals as goal

pub returns : goal.returns
returns c = λ s a e x known. typed_exactly s known a e x
