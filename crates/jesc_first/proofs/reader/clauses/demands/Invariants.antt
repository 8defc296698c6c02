use Rattle.std.proofs.Common.{length, ◌≤◌, true}
use Rattle.jesc_first.specs.Parsing.{stateless, demand_in, repeated}
use Rattle.jesc_first.specs.Seen.{seen}
use Rattle.jesc_first.proofs.Loops.{Left}
use Rattle.jesc_first.proofs.reader.clauses.demands.Given as goal

abbrev pub invariant-loop-demands : goal.invariant-loop-demands
invariant-loop-demands l = record {
  shorter : length (seen l.cursor) ≤ length (seen l.fn.cursor);
  left : Left (stateless (demand_in l.scope)) (repeated (stateless (demand_in l.scope)) true (seen l.fn.cursor)) l.demands true (seen l.cursor);
}

abbrev pub decreases-loop-demands : goal.decreases-loop-demands
decreases-loop-demands l = length (seen l.cursor)
