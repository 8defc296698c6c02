use Rattle.std.proofs.Common.{if◌then◌else◌, suc, List, Ok}
use Rattle.jesc_linear.specs.Courses.{Entry}
use Rattle.jesc_linear.specs.Elimination.{stays, put_row, put_derived}
use Rattle.jesc_linear.specs.Tables.{table_of, entries_of}
use Rattle.jesc_linear.proofs.Pairing.{ends_then, handed_on, derived_stays}
use Rattle.jesc_linear.proofs.pairs.put_derived.Goals as goal

pub returns-in-Some-clause-table : goal.returns-in-Some-clause-table
returns-in-Some-clause-table c = let is = c.put.ensures.table in record { steps = is.steps; slots = is.slots; few = is.few }

pub returns-in-Some-clause-course : goal.returns-in-Some-clause-course
returns-in-Some-clause-course c =
    derived_stays c.args.step.row (table_of c.args.table.now) (entries_of c.put.new.table.log c.put.new.table.slots.items) c.in_ok-put.field-0 c.in-Some.next c.put.new.table.pairs
    c.in_ok-put.ensures.course c.in_ok-put.ensures.stays c.if-not-branch.false c.in-Some.ensures.1 c.put.ensures.pairs

pub returns-in_err-put-clause-course : goal.returns-in_err-put-clause-course
returns-in_err-put-clause-course c =
    let table = table_of c.args.table.now in
    handed_on c.put.new.table.log (λ u. table_of c.put.new.table) (put_derived c.args.step.row table) c.in_err-put.field-0.0 c.from_residual.result c.from_residual.ensures.1
    (ends_then c.put.new.table.log c.in_err-put.field-0.0 (put_row table.next c.args.step.row table.entries)
    (λ (entries : List Entry). Ok (record { entries = entries; next = if stays table.entries c.args.step.row then suc table.next else table.next; pairs = table.pairs }))
    c.in_err-put.ensures.course)
