use Rattle.std.proofs.Common.{length, ◌≤◌, true}
use Rattle.jesc_first.specs.Parsing.{stateless, operation_in, repeated}
use Rattle.jesc_first.specs.Seen.{seen}
use Rattle.jesc_first.proofs.Loops.{Left}
use Rattle.jesc_first.proofs.reader.sums.operations.Given as goal

abbrev pub invariant-loop-operations : goal.invariant-loop-operations
invariant-loop-operations l = record {
  shorter : length (seen l.cursor) ≤ length (seen l.fn.cursor);
  left : Left (stateless (operation_in l.setting.note l.setting.outcome l.scope)) (repeated (stateless (operation_in l.setting.note l.setting.outcome l.scope)) true (seen l.fn.cursor)) l.operations true (seen l.cursor);
}

abbrev pub decreases-loop-operations : goal.decreases-loop-operations
decreases-loop-operations l = length (seen l.cursor)
