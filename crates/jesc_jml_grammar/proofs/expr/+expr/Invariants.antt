use Rattle.jesc_jml_grammar.proofs.expr.+expr.Given as goal

abbrev pub decreases-expr : goal.decreases-expr
decreases-expr l = l.room
