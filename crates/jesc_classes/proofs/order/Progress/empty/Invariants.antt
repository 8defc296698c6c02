use Rattle.jesc_classes.proofs.Start.{IsBlank}
use Rattle.jesc_classes.proofs.order.Progress.empty.Given as goal

abbrev pub invariant-loop-class : goal.invariant-loop-class
invariant-loop-class l = IsBlank l._class l.has_id.items l.waiting.items
