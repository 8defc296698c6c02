use Rattle.jesc_clauses.proofs.clausify_formulas.free_symbol.Given as goal

abbrev pub decreases-loop-symbol : goal.decreases-loop-symbol
decreases-loop-symbol l = l.symbol
