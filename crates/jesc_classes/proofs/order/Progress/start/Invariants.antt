use Rattle.jesc_classes.proofs.Start.{Starts}
use Rattle.jesc_classes.proofs.order.Progress.start.Given as goal

abbrev pub invariant-loop-class : goal.invariant-loop-class
invariant-loop-class l = Starts l.graph l.class l.progress
