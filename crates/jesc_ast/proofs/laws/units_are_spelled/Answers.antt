use Rattle.jesc_ast.specs.laws.SpelledMembers.{unit_spelled}
use Rattle.jesc_ast.proofs.laws.units_are_spelled.Goals as goal

pub returns : goal.returns
returns c = unit_spelled
