use Rattle.std.proofs.Common.{◌≡◌, ℤ, pos, FitsSigned, w64, to_z, of_z, [], ◌∷◌, ◌++◌, cond, get_or, ap, ◌∙◌}
use Rattle.std.specs.Prelude.{int_lt}
use Rattle.std.proofs.lemmas.Int.{to_z-of_z}
use Rattle.jesc_linear.specs.declared.rows.Row.{Row}
use Rattle.jesc_linear.specs.declared.stop.Slot.{Slot}
use Rattle.jesc_linear.specs.Forms.{Form, coefficient_of}
use Rattle.jesc_linear.specs.Elimination.{is_upper, is_lower}
use Rattle.jesc_linear.specs.Tables.{row_at, entry_of}
use Rattle.jesc_linear.proofs.Stages.{push_passing}
use Rattle.jesc_linear.proofs.stage.add_sides.Goals as goal

pub loop-slot-preserved : goal.loop-slot-preserved
loop-slot-preserved c =
    let log = c.args.log.now in
    let slots = c.args.slots.now in
    let term = c.args.term in
    let k = c.loop-slot.slot-index in
    let none : Slot = record { number = 0; at = 0; mark = 0 } in
    let slot : Slot = get_or slots k none in
    let form = c.as_slice.ensures ∙ ap (λ (row : Row). row.form) c.row_in.ensures in
    let fits : FitsSigned w64 c.coefficient.result = record { sfits = c.coefficient.type_inv } in
    let own : to_z w64 (of_z w64 c.coefficient.result) ≡ coefficient_of (row_at log slot.at).form term = to_z-of_z w64 c.coefficient.result fits ∙ c.coefficient.ensures ∙ ap (λ (f : Form). coefficient_of f term) form in
    record {
      uppers = push_passing (λ (s : Slot). is_upper term (entry_of log s)) slots k none c.args.uppers.now c.loop-slot.uppers c.put_side.new.uppers c.loop-slot-test.true
          c.loop-slot.invariant.uppers (c.in_ok-put_side.ensures.uppers ∙ ap (λ (n : ℤ). c.loop-slot.uppers ++ cond (int_lt (pos 0) n) (slot ∷ []) []) own);
      lowers = push_passing (λ (s : Slot). is_lower term (entry_of log s)) slots k none c.args.lowers.now c.loop-slot.lowers c.put_side.new.lowers c.loop-slot-test.true
          c.loop-slot.invariant.lowers (c.in_ok-put_side.ensures.lowers ∙ ap (λ (n : ℤ). c.loop-slot.lowers ++ cond (int_lt n (pos 0)) (slot ∷ []) []) own);
    }
