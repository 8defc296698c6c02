use Rattle.std.proofs.Common.{◌≡◌, pos, List, ◌++◌, filter, ap, sym, subst, ◌∙◌}
use Rattle.std.specs.Prelude.{◌<ℤ◌}
use Rattle.std.proofs.lemmas.List.Elements.{All-same, All-filter}
use Rattle.jesc_linear.specs.declared.stop.Slot.{Slot}
use Rattle.jesc_linear.specs.Forms.{coefficient_of}
use Rattle.jesc_linear.specs.Courses.{Course, Entry}
use Rattle.jesc_linear.specs.Elimination as spec
use Rattle.jesc_linear.specs.Elimination.{Table, is_upper, is_lower}
use Rattle.jesc_linear.specs.Tables.{IsSlot, Goes, row_at, entry_of, entries_of, table_of}
use Rattle.jesc_linear.proofs.Tables.{entries_filtered}
use Rattle.jesc_linear.proofs.Stages.{uppers_are_above, lowers_are_below}
use Rattle.jesc_linear.proofs.stage.put_stage_sums.Goals as goal

pub put_all_sums-requires : goal.put_all_sums-requires
put_all_sums-requires c =
    let log = c.args.table.now.log in
    let slots = c.args.table.now.slots.items in
    let term = c.args.term in
    let upper = λ (slot : Slot). is_upper term (entry_of log slot) in
    let lower = λ (slot : Slot). is_lower term (entry_of log slot) in
    let uppers : c.as_slice-2.result.now ≡ filter upper slots =
    c.as_slice-2.ensures ∙ c.in_ok-add_sides.ensures.uppers ∙ ap (λ (list : List Slot). list ++ filter upper c.as_slice.result.now) c.new-uppers.ensures ∙ ap (filter upper) c.as_slice.ensures.value in
    let lowers : c.as_slice-3.result.now ≡ filter lower slots =
    c.as_slice-3.ensures ∙ c.in_ok-add_sides.ensures.lowers ∙ ap (λ (list : List Slot). list ++ filter lower c.as_slice.result.now) c.new-lowers.ensures ∙ ap (filter lower) c.as_slice.ensures.value in
    record {
      table = c.requires;
      uppers = All-same (IsSlot log) c.as_slice-2.result.now (filter upper slots) uppers (All-filter upper (IsSlot log) slots c.requires.slots);
      lowers = All-same (IsSlot log) c.as_slice-3.result.now (filter lower slots) lowers (All-filter lower (IsSlot log) slots c.requires.slots);
      upper_signs = All-same (λ (slot : Slot). pos 0 <ℤ coefficient_of (row_at log slot.at).form term) c.as_slice-2.result.now (filter upper slots) uppers (uppers_are_above log term slots);
      lower_signs = All-same (λ (slot : Slot). coefficient_of (row_at log slot.at).form term <ℤ pos 0) c.as_slice-3.result.now (filter lower slots) lowers (lowers_are_below log term slots);
    }

pub returns : goal.returns
returns c =
    let log = c.args.table.now.log in
    let slots = c.args.table.now.slots.items in
    let term = c.args.term in
    let upper = λ (slot : Slot). is_upper term (entry_of log slot) in
    let lower = λ (slot : Slot). is_lower term (entry_of log slot) in
    let uppers : entries_of log c.as_slice-2.result.now ≡ filter (is_upper term) (entries_of log slots) =
    ap (entries_of log) (c.as_slice-2.ensures ∙ c.in_ok-add_sides.ensures.uppers ∙ ap (λ (list : List Slot). list ++ filter upper c.as_slice.result.now) c.new-uppers.ensures ∙ ap (filter upper) c.as_slice.ensures.value)
    ∙ sym (entries_filtered (is_upper term) log slots) in
    let lowers : entries_of log c.as_slice-3.result.now ≡ filter (is_lower term) (entries_of log slots) =
    ap (entries_of log) (c.as_slice-3.ensures ∙ c.in_ok-add_sides.ensures.lowers ∙ ap (λ (list : List Slot). list ++ filter lower c.as_slice.result.now) c.new-lowers.ensures ∙ ap (filter lower) c.as_slice.ensures.value)
    ∙ sym (entries_filtered (is_lower term) log slots) in
    let table = table_of c.args.table.now in
    let same : spec.put_all_sums term (entries_of log c.as_slice-2.result.now) (entries_of log c.as_slice-3.result.now) table ≡ spec.put_all_sums term (filter (is_upper term) (entries_of log slots)) (filter (is_lower term) (entries_of log slots)) table =
    ap (λ (list : List Entry). spec.put_all_sums term list (entries_of log c.as_slice-3.result.now) table) uppers ∙ ap (λ (list : List Entry). spec.put_all_sums term (filter (is_upper term) (entries_of log slots)) list table) lowers in
    record {
      table = c.put_all_sums.ensures.table;
      log = c.put_all_sums.ensures.log;
      course = subst (λ (course : Course Table). Goes {B = Unit {0}} c.put_all_sums.new.table.log (λ u. table_of c.put_all_sums.new.table) course c.put_all_sums.result) same c.put_all_sums.ensures.course;
    }
