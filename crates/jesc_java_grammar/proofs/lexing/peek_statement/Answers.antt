use Rattle.std.proofs.Common.{◌∙◌}
use Rattle.jesc_jml_grammar.specs.Seen.{seen, lexeme}
use Rattle.jesc_java_grammar.proofs.Heads.{statement_mark-some}
use Rattle.jesc_java_grammar.proofs.lexing.peek_statement.Goals as goal

pub returns-in-Some : goal.returns-in-Some
returns-in-Some c = c.statement_mark.ensures ∙ statement_mark-some (seen c.args.cursor.now) (lexeme c.in-Some.x) c.in-Some.ensures
