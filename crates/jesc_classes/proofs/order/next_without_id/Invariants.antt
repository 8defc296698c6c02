use Rattle.jesc_classes.specs.Progress.{AllMarked}
use Rattle.jesc_classes.proofs.order.next_without_id.Given as goal

abbrev pub invariant-loop-place : goal.invariant-loop-place
invariant-loop-place l = AllMarked l.has_id l.supers l.start l.place
