use Rattle.std.proofs.Common.{drop, take, map, ◌++◌}
use Rattle.jesc_linear.specs.Steps.{AreSteps}
use Rattle.jesc_linear.specs.Inner.{row_of}
use Rattle.jesc_linear.proofs.steps.are_taken.Given as goal

abbrev pub invariant-loop-k : goal.invariant-loop-k
invariant-loop-k l = record {
  to : AreSteps l.rows l.steps → AreSteps (l.rows ++ map row_of (take l.k l.steps)) (drop l.k l.steps);
  from : AreSteps (l.rows ++ map row_of (take l.k l.steps)) (drop l.k l.steps) → AreSteps l.rows l.steps;
}
