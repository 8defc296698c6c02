use Rattle.std.proofs.Common.{drop}
use Rattle.jesc_engine.specs.Ways.{no_outcome}
use Rattle.jesc_engine.proofs.Conditions.{IsAssuming}
use Rattle.jesc_engine.proofs.ways.conditions.assume_all.Given as goal

abbrev pub invariant-loop-condition : goal.invariant-loop-condition
invariant-loop-condition l = IsAssuming l.atoms no_outcome l.initial.facts l.condition-items l.facts (drop l.condition-index l.condition-items)
