use Rattle.std.proofs.Common.{take}
use Rattle.jesc_linear.specs.Tables.{entries_of}
use Rattle.jesc_linear.specs.Counts.{HasCounts}
use Rattle.jesc_linear.proofs.choice.count_rows.Given as goal

abbrev pub invariant-loop-slot : goal.invariant-loop-slot
invariant-loop-slot l = HasCounts (entries_of l.log (take l.slot-index l.slots)) l.counts.items
