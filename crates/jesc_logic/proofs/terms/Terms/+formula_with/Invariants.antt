use Rattle.jesc_logic.proofs.terms.Terms.+formula_with.Given as goal

abbrev pub decreases-formula_with : goal.decreases-formula_with
decreases-formula_with l = goal.size-formula_with l
