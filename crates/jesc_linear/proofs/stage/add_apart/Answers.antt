use Rattle.std.proofs.Common.{Bool, not, [], ◌∷◌, ◌++◌, cond, get_or, ap, ◌∙◌}
use Rattle.jesc_linear.specs.declared.stop.Slot.{Slot}
use Rattle.jesc_linear.specs.Elimination as spec
use Rattle.jesc_linear.specs.Tables.{entry_of}
use Rattle.jesc_linear.proofs.Stages.{push_passing}
use Rattle.jesc_linear.proofs.stage.add_apart.Goals as goal

pub loop-slot-preserved : goal.loop-slot-preserved
loop-slot-preserved c =
    let log = c.args.log.now in
    let slots = c.args.slots.now in
    let term = c.args.term in
    let k = c.loop-slot.slot-index in
    let none : Slot = record { number = 0; at = 0; mark = 0 } in
    let slot : Slot = get_or slots k none in
    let own = c.has_term.ensures in
    record {
      held = push_passing (λ (s : Slot). spec.has_term term (entry_of log s)) slots k none c.args.held.now.items c.loop-slot.held.items c.put_apart.new.held.items c.loop-slot-test.true
          c.loop-slot.invariant.held (c.in_ok-put_apart.ensures.held ∙ ap (λ (b : Bool). c.loop-slot.held.items ++ cond b (slot ∷ []) []) own);
      rest = push_passing (λ (s : Slot). not (spec.has_term term (entry_of log s))) slots k none c.args.rest.now.items c.loop-slot.rest.items c.put_apart.new.rest.items c.loop-slot-test.true
          c.loop-slot.invariant.rest (c.in_ok-put_apart.ensures.rest ∙ ap (λ (b : Bool). c.loop-slot.rest.items ++ cond (not b) (slot ∷ []) []) own);
    }
