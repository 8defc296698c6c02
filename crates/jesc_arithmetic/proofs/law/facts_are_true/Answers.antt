use Rattle.jesc_arithmetic.proofs.TrueFacts.{true_of, facts_true}
use Rattle.jesc_arithmetic.proofs.law.facts_are_true.Goals as goal

pub returns : goal.returns
returns c = record { formulas = facts_true; operation = true_of }
