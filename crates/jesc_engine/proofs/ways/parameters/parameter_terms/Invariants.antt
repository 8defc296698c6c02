use Rattle.std.proofs.Common.{◌≡◌, ◌++◌, drop}
use Rattle.jesc_engine.specs.Ways.{terms_from}
use Rattle.jesc_engine.proofs.ways.parameters.parameter_terms.Given as goal

abbrev pub invariant-loop-slot : goal.invariant-loop-slot
invariant-loop-slot l = terms_from 0 l.parameters ≡ l.terms.items ++ terms_from l.slot (drop l.slot l.parameters)
