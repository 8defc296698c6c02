use Rattle.std.proofs.Common.{◌≡◌, ◌≤◌, length}
use Rattle.jesc_text.specs.Places.{line_at, column_at}
use Rattle.jesc_text.proofs.place.place_of.Given as goal

abbrev pub invariant-loop-byte : goal.invariant-loop-byte
invariant-loop-byte l = record {
  short : length l.byte-items ≤ 1048576;
  line : l.line ≡ line_at l.byte-items l.byte-index;
  col : l.col ≡ column_at l.byte-items l.byte-index;
}
