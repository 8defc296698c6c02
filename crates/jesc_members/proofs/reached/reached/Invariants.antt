use Rattle.std.proofs.Common.{◌-◌, length}
use Rattle.jesc_members.proofs.GroupReach.{IsWalk}
use Rattle.jesc_members.proofs.reached.reached.Given as goal

abbrev pub invariant-loop-k : goal.invariant-loop-k
invariant-loop-k l = IsWalk l.graph l.start l.k l.met.keys l.found

abbrev pub decreases-loop-k : goal.decreases-loop-k
decreases-loop-k l = length l.graph - l.k
