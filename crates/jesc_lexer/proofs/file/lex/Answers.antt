use Rattle.jesc_lexer.proofs.Unique.{answers}
use Rattle.jesc_lexer.proofs.file.lex.Goals as goal

pub returns-clause-exact : goal.returns-clause-exact
returns-clause-exact c = λ outcome lexed. answers c.args.file c.args.bytes.now outcome c.read_file.result c.read_file.ensures lexed
