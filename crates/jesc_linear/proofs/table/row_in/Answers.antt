use Rattle.std.proofs.Common.{List, get_or, sym, ◌∙◌, ap}
use Rattle.jesc_linear.specs.declared.rows.LinStep.{LinStep}
use Rattle.jesc_linear.proofs.Tables.{row_at_is}
use Rattle.jesc_linear.proofs.table.row_in.Goals as goal

pub returns : goal.returns
returns c =
    let at = c.args.slot.at in
    let step = c.index-as_slice-slot.result in
    ap (λ (log : List LinStep). (get_or log at step).row) c.as_slice.ensures ∙ sym (row_at_is c.args.log.now at step c.requires.there)
