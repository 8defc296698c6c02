use Rattle.jesc_ast.specs.Lexemes.{lexemes}
use Rattle.jesc_first.specs.Seen.{seen}
use Rattle.jesc_first.proofs.Strays.{strays_there}
use Rattle.jesc_first.proofs.reader.refusal.Goals as goal

pub returns-in-Ok : goal.returns-in-Ok
returns-in-Ok c =
    strays_there c.args.names.now (lexemes c.args.tokens.now) (seen c.cursor_of-cursor.result) (seen c.in-Ok.place) c.left.result c.left-in-Ok.result
    c.requires.unread c.cursor_of-cursor.ensures c.in-Ok.ensures c.left.ensures c.left-in-Ok.ensures
