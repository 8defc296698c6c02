use Rattle.jesc_lookup.proofs.TrieSteps.{Puts}
use Rattle.jesc_lookup.proofs.tries.put_in.Given as goal

abbrev pub invariant-loop-level : goal.invariant-loop-level
invariant-loop-level l = Puts l.bits l.fn.nodes l.root l.key l.value l.first l.nodes l.level l.size l.node l.rest

abbrev pub decreases-loop-level : goal.decreases-loop-level
decreases-loop-level l = l.level
