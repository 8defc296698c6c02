use Rattle.std.proofs.Common.{ap, not, sym, arith}
use Rattle.std.proofs.lemmas.List.Filters.{FiltersInPlace-more_set, FiltersInPlace-more_no}
use Rattle.jesc_linear.specs.Tables.{IsSlot}
use Rattle.jesc_linear.proofs.Forming.{slot_in_rest}
use Rattle.jesc_linear.proofs.entry.drop_form.Goals as goal

pub has_form-requires-clause-slot : goal.has_form-requires-clause-slot
has_form-requires-clause-slot c =
    let v = c.loop-at.invariant in
    slot_in_rest (IsSlot c.args.log.now) c.args.slots.now.items c.loop-at.slots.items c.loop-at.at c.index-slot.result.now c.requires.slots v.long v.rest (omega arith) c.index-slot.ensures

pub loop-at-preserved : goal.loop-at-preserved
loop-at-preserved c = elim c.if-not-has_form.branch [
  | goal.then-not-has_form w ↦ rw (w.slots-is, w.kept-is) (FiltersInPlace-more_set c.loop-at.invariant (omega arith) (ap not (sym w.if-not-has_form.ensures)) c.index-slot.ensures)
  | goal.else-not-has_form w ↦ rw (w.slots-is, w.kept-is) (FiltersInPlace-more_no c.loop-at.invariant (omega arith) (ap not (sym w.if-not-has_form.ensures)) c.index-slot.ensures)
]
