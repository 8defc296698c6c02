use Rattle.std.proofs.Common.{List, pos, sym, ap, ◌∙◌}
use Rattle.jesc_linear.specs.declared.rows.Row.{Row}
use Rattle.jesc_linear.specs.declared.rows.LinStep.{LinStep}
use Rattle.jesc_linear.specs.Tables.{row_at}
use Rattle.jesc_linear.proofs.Tables.{row_at_read}
use Rattle.jesc_linear.proofs.RowsAt.{row_past, copy_is}
use Rattle.jesc_linear.proofs.outcome.copied_row.Goals as goal

pub returns-in-Some : goal.returns-in-Some
returns-in-Some c =
    copy_is c.in-Some.step.now.row (row_at c.args.log.now c.args.at) c.copied.result
    (ap (λ (log : List LinStep). row_at log c.args.at) (sym c.as_slice.ensures) ∙ row_at_read c.as_slice.result.now c.args.at c.in-Some.step.now c.in-Some.ensures.lookup.3.0 c.in-Some.ensures.lookup.1)
    c.copied.ensures

pub returns-in-None : goal.returns-in-None
returns-in-None c =
    ap (λ form. let row : Row = record { form = form; bound = pos 0 } in row) c.new.ensures
    ∙ sym (ap (λ (log : List LinStep). row_at log c.args.at) (sym c.as_slice.ensures) ∙ row_past c.as_slice.result.now c.args.at c.in-None.ensures.lookup.3)
