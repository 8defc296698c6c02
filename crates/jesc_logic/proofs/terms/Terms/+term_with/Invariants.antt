use Rattle.jesc_logic.proofs.terms.Terms.+term_with.Given as goal

abbrev pub decreases-term_with : goal.decreases-term_with
decreases-term_with l = l.id.0
