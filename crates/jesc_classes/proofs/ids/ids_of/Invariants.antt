use Rattle.jesc_classes.proofs.Numbers.{AreFilled}
use Rattle.jesc_classes.proofs.ids.ids_of.Given as goal

abbrev pub invariant-loop-id : goal.invariant-loop-id
invariant-loop-id l = AreFilled l.order l.ids.items l.id
