use Rattle.std.proofs.Common.{take}
use Rattle.jesc_members.proofs.GroupEdges.{NoneBack}
use Rattle.jesc_members.proofs.groups.is_above_itself.Given as goal

abbrev pub invariant-loop-above : goal.invariant-loop-above
invariant-loop-above l = NoneBack l.graph l.number (take l.above-index l.above-items)
