use Rattle.jesc_ast.specs.laws.Places.{lines_rise as starts_rise}
use Rattle.jesc_ast.proofs.laws.lines_rise.Goals as goal

pub returns : goal.returns
returns c = λ text. starts_rise text
