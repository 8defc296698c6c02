use Rattle.std.proofs.Common.{length}
use Rattle.jesc_names.proofs.TablesRising.{IsRisen}
use Rattle.jesc_names.proofs.members.rising.Given as goal

abbrev pub invariant-loop-id : goal.invariant-loop-id
invariant-loop-id l = IsRisen l.fn.set.keys l.rising l.set.keys

abbrev pub decreases-loop-id : goal.decreases-loop-id
decreases-loop-id l = length l.set.keys
