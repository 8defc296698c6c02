use Rattle.std.proofs.Common.{◌-◌, ◌≤◌, length}
use Rattle.jesc_text.specs.Places.{line_at}
use Rattle.jesc_engine.proofs.report.source.count_up_to.Given as goal

abbrev pub invariant-loop-low : goal.invariant-loop-low
invariant-loop-low l = record {
  low : l.low ≤ line_at l.bytes l.offset;
  high : line_at l.bytes l.offset ≤ l.high;
  within : l.high ≤ length l.starts;
}

abbrev pub decreases-loop-low : goal.decreases-loop-low
decreases-loop-low l = l.high - l.low
