use Rattle.std.proofs.Common.{◌≡◌, length, ◌≤◌}
use Rattle.jesc_first.specs.Parsing.{from_static}
use Rattle.jesc_first.specs.Seen.{seen}
use Rattle.jesc_first.proofs.reader.cursor.Cursor.skip_to_static.Given as goal

abbrev pub invariant-loop-self : goal.invariant-loop-self
invariant-loop-self l = record {
  shorter : length (seen l.self) ≤ length (seen l.fn.self);
  same : from_static (seen l.fn.self) ≡ from_static (seen l.self);
}

abbrev pub decreases-loop-self : goal.decreases-loop-self
decreases-loop-self l = length (seen l.self)
