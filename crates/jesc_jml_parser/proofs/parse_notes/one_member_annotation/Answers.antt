use Rattle.jesc_jml_parser.specs.laws.ClauseWhole.{member_unique}
use Rattle.jesc_jml_parser.proofs.parse_notes.one_member_annotation.Goals as goal

pub returns : goal.returns
returns c = member_unique
