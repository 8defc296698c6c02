use Rattle.jesc_members.proofs.GroupLists.{AreRows}
use Rattle.jesc_members.proofs.grouping.group_graph.Given as goal

abbrev pub invariant-loop-field : goal.invariant-loop-field
invariant-loop-field l = AreRows l.inheritance l.field-index l.graph
