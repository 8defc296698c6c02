use Rattle.jesc_members.proofs.GroupEdges.{IsTurning}
use Rattle.jesc_members.proofs.reversed.reversed.Given as goal

abbrev pub invariant-loop-number : goal.invariant-loop-number
invariant-loop-number l = IsTurning l.graph l.number l.rows.items
