use Rattle.jesc_ast.specs.laws.SpelledMembers.{member_spelled}
use Rattle.jesc_ast.proofs.laws.members_are_spelled.Goals as goal

pub returns : goal.returns
returns c = λ m u spells. member_spelled m u spells
