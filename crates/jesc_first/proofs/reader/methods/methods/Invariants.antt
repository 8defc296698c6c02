use Rattle.std.proofs.Common.{length, ◌≤◌, []}
use Rattle.jesc_first.specs.Parsing.{next_method_in, repeated}
use Rattle.jesc_first.specs.Seen.{seen}
use Rattle.jesc_first.proofs.Loops.{Left}
use Rattle.jesc_first.proofs.reader.methods.methods.Given as goal

abbrev pub invariant-loop-methods : goal.invariant-loop-methods
invariant-loop-methods l = record {
  shorter : length (seen l.cursor) ≤ length (seen l.fn.cursor);
  left : Left next_method_in (repeated next_method_in [] (seen l.fn.cursor)) l.methods l.names (seen l.cursor);
}

abbrev pub decreases-loop-methods : goal.decreases-loop-methods
decreases-loop-methods l = length (seen l.cursor)
