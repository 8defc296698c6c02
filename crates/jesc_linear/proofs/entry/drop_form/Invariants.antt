use Rattle.std.specs.Prelude.{not}
use Rattle.std.proofs.lemmas.List.Filters.{FiltersInPlace}
use Rattle.jesc_linear.specs.declared.stop.Slot.{Slot}
use Rattle.jesc_linear.specs.Elimination.{same_form}
use Rattle.jesc_linear.specs.Tables.{row_at}
use Rattle.jesc_linear.proofs.entry.drop_form.Given as goal

abbrev pub invariant-loop-at : goal.invariant-loop-at
invariant-loop-at l = FiltersInPlace (λ (slot : Slot). not (same_form (row_at l.log slot.at).form l.form)) l.initial.slots.items l.slots.items l.kept l.at
