use Rattle.std.proofs.Common.{length, ◌≤◌, true}
use Rattle.jesc_first.specs.Parsing.{stateless, promise_in, repeated}
use Rattle.jesc_first.specs.Seen.{seen}
use Rattle.jesc_first.proofs.Loops.{Left}
use Rattle.jesc_first.proofs.reader.clauses.promises.Given as goal

abbrev pub invariant-loop-promises : goal.invariant-loop-promises
invariant-loop-promises l = record {
  shorter : length (seen l.cursor) ≤ length (seen l.fn.cursor);
  left : Left (stateless (promise_in l.outcome l.scope)) (repeated (stateless (promise_in l.outcome l.scope)) true (seen l.fn.cursor)) l.promises true (seen l.cursor);
}

abbrev pub decreases-loop-promises : goal.decreases-loop-promises
decreases-loop-promises l = length (seen l.cursor)
