use Rattle.std.proofs.Common.{[], ◌∷◌, sym, ◌∙◌, ap, subst}
use Rattle.std.specs.Prelude.{All}
use Rattle.jesc_linear.specs.declared.stop.Slot.{Slot}
use Rattle.jesc_linear.specs.Tables.{IsSlot, entries_of}
use Rattle.jesc_linear.specs.Elimination.{limited}
use Rattle.jesc_linear.proofs.Tables.{steps_after, slots_kept, slots_pushed, entries_pushed}
use Rattle.jesc_linear.proofs.entry.put_last.Goals as goal

pub returns-in_err-push_slot-clause-table : goal.returns-in_err-push_slot-clause-table
returns-in_err-push_slot-clause-table c =
    let t = c.args.table.now in
    let e = c.in_ok-at.ensures.ok in
    record {
      steps = steps_after c.args.rows.now t.log c.push_step.new.log c.args.step e c.requires.table.steps c.requires.step;
      slots = subst (All (IsSlot c.push_step.new.log)) (sym c.in_err-push_slot.ensures.err) (slots_kept t.log c.push_step.new.log t.slots.items (c.args.step ∷ [], e) c.requires.table.slots);
      few = c.in_ok-at.ensures.few;
    }

pub returns-in_err-look_at_length-clause-table : goal.returns-in_err-look_at_length-clause-table
returns-in_err-look_at_length-clause-table c =
    let t = c.args.table.now in
    let e = c.in_ok-at.ensures.ok in
    let slot : Slot = record { number = c.args.number; at = c.in_ok-at.at; mark = c.args.mark } in
    record {
      steps = steps_after c.args.rows.now t.log c.push_step.new.log c.args.step e c.requires.table.steps c.requires.step;
      slots = subst (All (IsSlot c.push_step.new.log)) (sym c.in_ok-push_slot.ensures.ok) (slots_pushed t.log c.push_step.new.log c.args.step t.slots.items slot e c.requires.table.slots c.in_ok-at.ensures.place c.requires.mark);
      few = c.in_ok-at.ensures.few;
    }

pub returns-clause-table : goal.returns-clause-table
returns-clause-table c =
    let t = c.args.table.now in
    let e = c.in_ok-at.ensures.ok in
    let slot : Slot = record { number = c.args.number; at = c.in_ok-at.at; mark = c.args.mark } in
    record {
      steps = steps_after c.args.rows.now t.log c.push_step.new.log c.args.step e c.requires.table.steps c.requires.step;
      slots = subst (All (IsSlot c.push_step.new.log)) (sym c.in_ok-push_slot.ensures.ok) (slots_pushed t.log c.push_step.new.log c.args.step t.slots.items slot e c.requires.table.slots c.in_ok-at.ensures.place c.requires.mark);
      few = c.in_ok-at.ensures.few;
    }

pub returns-clause-course : goal.returns-clause-course
returns-clause-course c =
    let t = c.args.table.now in
    let slot : Slot = record { number = c.args.number; at = c.in_ok-at.at; mark = c.args.mark } in
    let pushed = entries_pushed t.log c.push_step.new.log c.args.step t.slots.items slot c.in_ok-at.ensures.ok c.requires.table.slots c.in_ok-at.ensures.place in
    ap limited (sym (ap (entries_of c.push_step.new.log) c.in_ok-push_slot.ensures.ok ∙ pushed)) ∙ c.in_ok-look_at_length.ensures
