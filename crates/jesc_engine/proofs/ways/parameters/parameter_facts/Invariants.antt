use Rattle.std.proofs.Common.{◌≡◌, ◌++◌, drop, length}
use Rattle.jesc_engine.specs.Ways.{ranges_from}
use Rattle.jesc_engine.proofs.ways.parameters.parameter_facts.Given as goal

abbrev pub invariant-loop-slot : goal.invariant-loop-slot
invariant-loop-slot l = (ranges_from 0 l.parameters ≡ l.facts.rows ++ ranges_from l.slot (drop l.slot l.parameters)) × (l.facts.fresh ≡ length l.parameters)
