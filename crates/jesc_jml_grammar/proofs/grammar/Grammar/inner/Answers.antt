use Rattle.jesc_jml_grammar.proofs.Room.{some_room}
use Rattle.jesc_jml_grammar.proofs.grammar.Grammar.inner.Goals as goal

pub returns-clause-some : goal.returns-clause-some
returns-clause-some g c = some_room _ _ _ _ _ _ _ _ _ (c.requires.reads _ _ _ _ _ _ _ c.expr.ensures)
