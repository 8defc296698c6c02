use Rattle.jesc_ast.specs.laws.SpelledSpecifications.{specification_spelled}
use Rattle.jesc_ast.proofs.laws.specifications_are_spelled.Goals as goal

pub returns : goal.returns
returns c = λ t u spells. specification_spelled t u spells
