use Rattle.std.proofs.Common.{Vec, Global, ◌≡◌, List, not, Ok, refl, ap, ◌∙◌}
use Rattle.jesc_linear.specs.declared.rows.LinStep.{LinStep}
use Rattle.jesc_linear.specs.declared.stop.Slot.{Slot}
use Rattle.jesc_linear.specs.Elimination as spec
use Rattle.jesc_linear.specs.Tables.{entry_of, entries_of, table_of}
use Rattle.jesc_linear.proofs.Stages.{extends_along, slots_apart, table_apart, entries_apart, table_left, stage_summed}
use Rattle.jesc_linear.proofs.stage.run_stage.Goals as goal

pub returns : goal.returns
returns c =
    let term = c.args.choice.term in
    let first = c.args.table.now in
    let counted = c.count_pairs.new.table in
    let summed = c.put_stage_sums.new.table in
    let last = c.set_aside.new.table in
    let has = λ (slot : Slot). spec.has_term term (entry_of summed.log slot) in
    let lacks = λ (slot : Slot). not (spec.has_term term (entry_of summed.log slot)) in
    let held = c.in_ok-held.held.items in
    let entries : entries_of counted.log counted.slots.items ≡ entries_of first.log first.slots.items =
    ap (λ (log : List LinStep). entries_of log counted.slots.items) c.in_ok-count_pairs.ensures.log ∙ ap (λ (slots : Vec Slot Global). entries_of first.log slots.items) c.in_ok-count_pairs.ensures.slots in
    record {
      table = table_apart c.args.rows.now summed last lacks c.put_stage_sums.ensures.table c.in_ok-held.ensures.log c.in_ok-held.ensures.rest;
      log = extends_along first.log counted.log summed.log last.log c.in_ok-count_pairs.ensures.log c.put_stage_sums.ensures.log c.in_ok-held.ensures.log;
      held = slots_apart summed.log last.log has summed.slots.items held c.put_stage_sums.ensures.table.slots c.in_ok-held.ensures.log c.in_ok-held.ensures.held;
      course = record {
        summed = table_of summed;
        course = stage_summed term c.args.choice.pairs (table_of first) (table_of counted) (Ok (table_of summed)) c.requires.pairs c.in_ok-count_pairs.ensures.course entries c.in_ok-put_stage_sums.ensures.course;
        left = table_left term summed last c.in_ok-held.ensures.log c.in_ok-held.ensures.rest c.in_ok-held.ensures.next c.in_ok-held.ensures.pairs;
        own = refl;
        held = entries_apart summed.log last.log (spec.has_term term) summed.slots.items held c.in_ok-held.ensures.log c.in_ok-held.ensures.held;
      };
    }
