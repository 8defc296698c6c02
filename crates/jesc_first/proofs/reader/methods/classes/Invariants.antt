use Rattle.std.proofs.Common.{length}
use Rattle.jesc_first.specs.Parsing.{next_class_in, repeated}
use Rattle.jesc_first.specs.Seen.{seen}
use Rattle.jesc_first.specs.Reads.{Keeps}
use Rattle.jesc_first.proofs.Loops.{Left}
use Rattle.jesc_first.proofs.reader.methods.classes.Given as goal

abbrev pub invariant-loop-classes : goal.invariant-loop-classes
invariant-loop-classes l = record {
  keeps : Keeps l.fn.names l.names;
  left : Left next_class_in (repeated next_class_in l.fn.names (seen l.fn.cursor)) l.classes l.names (seen l.cursor);
}

abbrev pub decreases-loop-classes : goal.decreases-loop-classes
decreases-loop-classes l = length (seen l.cursor)
