use Rattle.std.proofs.Common.{length, ◌≤◌}
use Rattle.jesc_first.specs.Parsing.{more_parameter_in, repeated}
use Rattle.jesc_first.specs.Seen.{seen}
use Rattle.jesc_first.specs.Reads.{in_front}
use Rattle.jesc_first.proofs.Loops.{Left}
use Rattle.jesc_first.proofs.reader.header.more_parameters.Given as goal

abbrev pub invariant-loop-parameters : goal.invariant-loop-parameters
invariant-loop-parameters l = record {
  shorter : length (seen l.cursor) ≤ length (seen l.fn.cursor);
  left : Left more_parameter_in (in_front l.fn.first (repeated more_parameter_in l.fn.scope (seen l.fn.cursor))) l.parameters l.scope (seen l.cursor);
}

abbrev pub decreases-loop-parameters : goal.decreases-loop-parameters
decreases-loop-parameters l = length (seen l.cursor)
