use Rattle.std.proofs.Common.{◌-◌, length}
use Rattle.jesc_classes.proofs.Rounds.{Gives}
use Rattle.jesc_classes.proofs.order.order.Given as goal

abbrev pub invariant-loop-class : goal.invariant-loop-class
invariant-loop-class l = Gives l.graph l.progress

abbrev pub decreases-loop-class : goal.decreases-loop-class
decreases-loop-class l = length l.graph - length l.progress.order
