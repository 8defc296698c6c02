use Rattle.std.proofs.Common.{length, ◌≤◌}
use Rattle.jesc_first.specs.Parsing.{statement_in, repeated}
use Rattle.jesc_first.specs.Seen.{seen}
use Rattle.jesc_first.proofs.Loops.{Left}
use Rattle.jesc_first.proofs.reader.body.statements.Given as goal

abbrev pub invariant-loop-statements : goal.invariant-loop-statements
invariant-loop-statements l = record {
  shorter : length (seen l.cursor) ≤ length (seen l.fn.cursor);
  left : Left statement_in (repeated statement_in l.fn.scope (seen l.fn.cursor)) l.statements l.scope (seen l.cursor);
}

abbrev pub decreases-loop-statements : goal.decreases-loop-statements
decreases-loop-statements l = length (seen l.cursor)
