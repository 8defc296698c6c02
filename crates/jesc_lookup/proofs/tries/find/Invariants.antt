use Rattle.jesc_lookup.proofs.TrieSteps.{Finds}
use Rattle.jesc_lookup.specs.Maps.{at}
use Rattle.jesc_lookup.specs.Tries.{map_of}
use Rattle.jesc_lookup.proofs.tries.find.Given as goal

abbrev pub invariant-loop-level : goal.invariant-loop-level
invariant-loop-level l = Finds l.nodes (at (map_of l.bits l.nodes l.root) l.key) l.level l.size l.node l.rest

abbrev pub decreases-loop-level : goal.decreases-loop-level
decreases-loop-level l = l.level
