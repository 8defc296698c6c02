use Rattle.jesc_ast.specs.laws.SpelledStatements.{statement_spelled}
use Rattle.jesc_ast.proofs.laws.statements_are_spelled.Goals as goal

pub returns : goal.returns
returns c = λ s u spells. statement_spelled s u spells
