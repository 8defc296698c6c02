use Rattle.std.proofs.Common.{◌≡◌, length}
use Rattle.jesc_first.specs.Parsing.{behind_notes}
use Rattle.jesc_first.specs.Seen.{seen}
use Rattle.jesc_first.proofs.reader.cursor.Cursor.skip_notes.Given as goal

abbrev pub invariant-loop-self : goal.invariant-loop-self
invariant-loop-self l = behind_notes (seen l.fn.self) ≡ behind_notes (seen l.self)

abbrev pub decreases-loop-self : goal.decreases-loop-self
decreases-loop-self l = length (seen l.self)
