use Rattle.std.proofs.Common.{◌≡◌, false, not, List, sym, ◌∙◌, ap, subst}
use Rattle.std.specs.Prelude.{All, filter}
use Rattle.std.specs.List.{list_any}
use Rattle.std.proofs.lemmas.List.Elements.{All-filter}
use Rattle.jesc_linear.specs.declared.stop.Slot.{Slot}
use Rattle.jesc_linear.specs.Forms.{Form}
use Rattle.jesc_linear.specs.Courses.{Entry}
use Rattle.jesc_linear.specs.Elimination.{same_form}
use Rattle.jesc_linear.specs.Tables.{IsSlot, entries_of, row_at}
use Rattle.jesc_linear.proofs.Tables.{entries_filtered}
use Rattle.jesc_linear.proofs.Forming.{is_of, none_covers, none_dropped}
use Rattle.jesc_linear.proofs.entry.make_way.Goals as goal

pub returns-then-not-is_known-clause-stays : goal.returns-then-not-is_known-clause-stays
returns-then-not-is_known-clause-stays c =
    let log = c.args.log.now in
    let slots = c.args.slots.now.items in
    let unknown : list_any (is_of c.args.row.now.form) (entries_of log slots) ≡ false =
    ap (λ (form : Form). list_any (is_of form) (entries_of log slots)) (sym c.as_slice-2.ensures)
    ∙ ap (λ (ss : List Slot). list_any (is_of c.as_slice-2.result.now) (entries_of log ss)) (sym c.as_slice.ensures.value) ∙ sym c.if-not-is_known.ensures in
    ap not (sym (none_covers c.args.row.now (entries_of log slots) unknown))

pub returns-then-not-is_known-clause-dropped : goal.returns-then-not-is_known-clause-dropped
returns-then-not-is_known-clause-dropped c =
    let log = c.args.log.now in
    let slots = c.args.slots.now.items in
    let unknown : list_any (is_of c.args.row.now.form) (entries_of log slots) ≡ false =
    ap (λ (form : Form). list_any (is_of form) (entries_of log slots)) (sym c.as_slice-2.ensures)
    ∙ ap (λ (ss : List Slot). list_any (is_of c.as_slice-2.result.now) (entries_of log ss)) (sym c.as_slice.ensures.value) ∙ sym c.if-not-is_known.ensures in
    λ stays. sym (none_dropped c.args.row.now.form (entries_of log slots) unknown)

pub returns-clause-slots : goal.returns-clause-slots
returns-clause-slots c =
    let log = c.args.log.now in
    subst (All (IsSlot log)) (sym c.drop_form.ensures) (All-filter (λ (slot : Slot). not (same_form (row_at log slot.at).form c.as_slice-4.result.now)) (IsSlot log) c.args.slots.now.items c.requires.slots)

pub returns-clause-dropped : goal.returns-clause-dropped
returns-clause-dropped c =
    let log = c.args.log.now in
    let slots = c.args.slots.now.items in
    λ stays. ap (entries_of log) c.drop_form.ensures ∙ sym (entries_filtered (λ (entry : Entry). not (is_of c.as_slice-4.result.now entry)) log slots)
    ∙ ap (λ (form : Form). filter (λ (entry : Entry). not (is_of form entry)) (entries_of log slots)) c.as_slice-4.ensures
