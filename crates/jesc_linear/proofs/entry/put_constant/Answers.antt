use Rattle.std.proofs.Common.{List, [], ◌∷◌, ◌++◌, map}
use Rattle.std.specs.Prelude.{slice_get}
use Rattle.jesc_linear.specs.declared.rows.Row.{Row}
use Rattle.jesc_linear.specs.Inner.{row_of}
use Rattle.jesc_linear.proofs.Tables.{steps_after, slots_kept, ends_after, derived_is_row}
use Rattle.jesc_linear.proofs.Forming.{put_absurd, is_negative}
use Rattle.jesc_linear.specs.Tables.{entries_of}
use Rattle.jesc_linear.proofs.entry.put_constant.Goals as goal

pub returns-clause-table : goal.returns-clause-table
returns-clause-table c =
    let t = c.args.table.now in
    let e = c.in_ok-push_step.ensures.ok in
    record {
      steps = steps_after c.args.rows.now t.log c.push_step.new.log c.args.step e c.requires.table.steps c.requires.step;
      slots = slots_kept t.log c.push_step.new.log t.slots.items (c.args.step ∷ [], e) c.requires.table.slots;
      few = c.in_ok-push_step.ensures.few;
    }

pub returns-clause-course : goal.returns-clause-course
returns-clause-course c =
    let t = c.args.table.now in
    let table : List Row = c.args.rows.now ++ map row_of t.log in
    let small = (derived_is_row (slice_get table c.args.step.i) (slice_get table c.args.step.j) c.args.step c.requires.step).bound in
    let negative = is_negative c.args.step.row.bound small c.if-step-ge0.false in
    λ number. (
      put_absurd number c.args.step.row (entries_of t.log t.slots.items) c.requires.form negative,
      ends_after t.log c.push_step.new.log c.args.step c.in_ok-push_step.ensures.ok (c.requires.form, negative),
    )
