use Rattle.jesc_classes.proofs.Filled.{AreEntriesBelow}
use Rattle.jesc_classes.proofs.headings.table.Given as goal

abbrev pub invariant-loop-id : goal.invariant-loop-id
invariant-loop-id l = AreEntriesBelow l.given l.order l.ids.items l.id l.classes
