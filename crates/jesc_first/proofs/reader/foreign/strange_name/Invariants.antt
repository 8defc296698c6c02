use Rattle.std.proofs.Common.{length}
use Rattle.jesc_first.specs.Seen.{seen}
use Rattle.jesc_first.proofs.Foreign.{IsReadTo}
use Rattle.jesc_first.proofs.reader.foreign.strange_name.Given as goal

abbrev pub invariant-loop-found : goal.invariant-loop-found
invariant-loop-found l = IsReadTo (seen l.cursor) (seen l.place) l.recognizer.phase

abbrev pub decreases-loop-found : goal.decreases-loop-found
decreases-loop-found l = length (seen l.place)
