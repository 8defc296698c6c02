use Rattle.jesc_expressions.specs.laws.Typing.{one_typed}
use Rattle.jesc_expressions.proofs.law.one_is_typed.Goals as goal

pub returns : goal.returns
returns c = λ s a e x y known p q. one_typed s known a e x y p q
