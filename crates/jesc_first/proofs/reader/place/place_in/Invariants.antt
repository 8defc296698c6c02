use Rattle.std.proofs.Common.{length}
use Rattle.jesc_first.specs.Seen.{seen}
use Rattle.jesc_first.specs.Fronts.{IsReached}
use Rattle.jesc_first.specs.Recognized.{state_of}
use Rattle.jesc_first.proofs.reader.place.place_in.Given as goal

abbrev pub invariant-loop-found : goal.invariant-loop-found
invariant-loop-found l = IsReached l.fn.classes (seen l.cursor) (seen l.place) (state_of l.recognizer l.classes)

abbrev pub decreases-loop-found : goal.decreases-loop-found
decreases-loop-found l = length (seen l.place)
