use Rattle.std.proofs.Common.{◌∙◌}
use Rattle.jesc_jml_grammar.specs.Seen.{seen, lexeme}
use Rattle.jesc_java_grammar.proofs.Heads.{member_mark-some}
use Rattle.jesc_java_grammar.proofs.lexing.peek_member.Goals as goal

pub returns-in-Some : goal.returns-in-Some
returns-in-Some c = c.member_mark.ensures ∙ member_mark-some (seen c.args.cursor.now) (lexeme c.in-Some.x) c.in-Some.ensures
