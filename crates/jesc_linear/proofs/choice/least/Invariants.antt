use Rattle.jesc_linear.specs.Counts.{IsBest}
use Rattle.jesc_linear.proofs.choice.least.Given as goal

abbrev pub invariant-loop-term : goal.invariant-loop-term
invariant-loop-term l = IsBest l.counts l.term l.best
