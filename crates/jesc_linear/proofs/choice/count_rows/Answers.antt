use Rattle.std.proofs.Common.{◌<◌, ◌≤◌, ◌^◌, arith, length, get_or, ap, sym, subst, ◌∙◌}
use Rattle.jesc_linear.specs.declared.rows.Row.{Row}
use Rattle.jesc_linear.specs.declared.stop.Slot.{Slot}
use Rattle.jesc_linear.specs.Forms.{Form, RisesFrom, coefficient_of}
use Rattle.jesc_linear.specs.Counts.{count_at, more}
use Rattle.jesc_linear.proofs.Counts.{counted_slot, form_in_log}
use Rattle.jesc_linear.proofs.choice.count_rows.Goals as goal

pub count_form-requires : goal.count_form-requires
count_form-requires c =
    let slot : Slot = get_or c.args.slots.now c.loop-slot.slot-index (record { number = 0; at = 0; mark = 0 }) in
    let form = c.as_slice.ensures ∙ ap (λ (row : Row). row.form) c.row_in.ensures in
    let within : slot.at < length c.args.log.now = (c.requires.slots c.loop-slot.slot-index (record { number = 0; at = 0; mark = 0 }) c.loop-slot-test.true).there in
    subst (RisesFrom 0) (sym form) (form_in_log c.args.log.now slot.at c.requires.forms within).rises

pub loop-slot-preserved : goal.loop-slot-preserved
loop-slot-preserved c =
    let counts = c.loop-slot.counts.items in
    let form = c.as_slice.ensures ∙ ap (λ (row : Row). row.form) c.row_in.ensures in
    let few : length c.count_form.new.counts.items ≤ 2 ^ 32 = omega (arith, c.count_form.ensures.few, c.loop-slot.invariant.few, c.loop-slot.counts.ok.0, c.count_form.new.counts.ok.0) in
    counted_slot c.args.log.now c.args.slots.now c.loop-slot.slot-index (record { number = 0; at = 0; mark = 0 }) counts c.count_form.new.counts.items
    c.loop-slot-test.true c.loop-slot.invariant few
    (λ t. c.in_ok-count_form.ensures.counted t ∙ ap (λ (f : Form). more (count_at counts t) (coefficient_of f t)) form)
