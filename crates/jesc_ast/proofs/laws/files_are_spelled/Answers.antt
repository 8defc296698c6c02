use Rattle.jesc_ast.specs.laws.SpelledMembers.{file_spelled}
use Rattle.jesc_ast.proofs.laws.files_are_spelled.Goals as goal

pub returns : goal.returns
returns c = λ tokens file spells. file_spelled tokens file spells
