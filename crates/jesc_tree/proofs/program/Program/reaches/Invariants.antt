use Rattle.jesc_tree.proofs.Climb.{Climbs}
use Rattle.jesc_tree.proofs.Sets.{above}
use Rattle.jesc_tree.proofs.program.Program.reaches.Given as goal

abbrev pub invariant-loop-id : goal.invariant-loop-id
invariant-loop-id l = Climbs l.self.classes l.low l.high l.met.keys

abbrev pub decreases-loop-id : goal.decreases-loop-id
decreases-loop-id l = above l.met.keys
