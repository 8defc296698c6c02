use Rattle.jesc_ast.specs.laws.SpelledExpressions.{expression_spelled}
use Rattle.jesc_ast.proofs.laws.expressions_are_spelled.Goals as goal

pub returns : goal.returns
returns c = λ note e u spells. expression_spelled note e u spells
