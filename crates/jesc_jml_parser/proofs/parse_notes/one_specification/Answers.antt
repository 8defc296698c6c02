use Rattle.jesc_jml_parser.specs.laws.ClauseWhole.{spec_unique}
use Rattle.jesc_jml_parser.proofs.parse_notes.one_specification.Goals as goal

pub returns : goal.returns
returns c = spec_unique
