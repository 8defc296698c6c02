use Rattle.std.proofs.Common.{◌≡◌, ◌≤◌, count_by, take}
use Rattle.jesc_text.specs.Places.{is_line_feed}
use Rattle.jesc_cert.proofs.parse.line_feeds.Given as goal

abbrev pub invariant-loop-i : goal.invariant-loop-i
invariant-loop-i l = record { is : l.count ≡ count_by is_line_feed (take l.i l.bytes); small : l.count ≤ l.i }
