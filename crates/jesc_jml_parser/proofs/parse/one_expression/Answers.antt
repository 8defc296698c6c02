use Rattle.jesc_jml_parser.specs.laws.Whole.{unique}
use Rattle.jesc_jml_parser.proofs.parse.one_expression.Goals as goal

pub returns : goal.returns
returns c = unique
