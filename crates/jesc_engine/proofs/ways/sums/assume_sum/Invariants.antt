use Rattle.std.proofs.Common.{drop}
use Rattle.jesc_engine.specs.Walk.{IsSumming}
use Rattle.jesc_engine.proofs.ways.sums.assume_sum.Given as goal

abbrev pub invariant-loop-operation : goal.invariant-loop-operation
invariant-loop-operation l =
    IsSumming l.atoms l.outcome l.initial.facts l.initial.x l.operation-items l.facts l.x (drop l.operation-index l.operation-items)
