use Rattle.std.proofs.Common.{length}
use Rattle.jesc_first.specs.Seen.{seen}
use Rattle.jesc_first.specs.Fronts.{Furthers}
use Rattle.jesc_first.proofs.reader.foreign.further_parameters.Given as goal

abbrev pub invariant-loop-cursor : goal.invariant-loop-cursor
invariant-loop-cursor l = Furthers (seen l.fn.cursor) l.fn.names (seen l.cursor) l.names

abbrev pub decreases-loop-cursor : goal.decreases-loop-cursor
decreases-loop-cursor l = length (seen l.cursor)
