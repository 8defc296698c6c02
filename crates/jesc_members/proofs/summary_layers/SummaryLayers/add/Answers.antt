use Rattle.std.proofs.Common.{◌<◌, ◌∙◌, [], length, get_or, map, sym, subst}
use Rattle.std.proofs.lemmas.List.{get_or_default}
use Rattle.jesc_classes.specs.Order.{supers}
use Rattle.jesc_members.specs.Seen.{seen_method}
use Rattle.jesc_members.specs.SummaryKnown.{IsHeld, first_above, items_of}
use Rattle.jesc_members.proofs.SummarySteps.{held_after, items_small}
use Rattle.jesc_members.proofs.SummaryLines.{class_added, first_held}
use Rattle.jesc_members.proofs.summary_layers.SummaryLayers.add.Goals as goal

pub add_classes-requires-clause-held : goal.add_classes-requires-clause-held
add_classes-requires-clause-held c =
    let methods = map seen_method c.args.methods.now in
    subst (λ a. IsHeld methods c.args.keys.now c.args.self.now.versions c.args.self.now.summaries a) (sym c.first_of-first.ensures)
    (first_held methods c.args.keys.now c.args.self.now.versions c.args.self.now.summaries c.args.whole.now.items (supers c.args.graph.now c.args.class) c.requires.held)

pub add_row-requires-clause-store : goal.add_row-requires-clause-store
add_row-requires-clause-store c = c.in_ok-above.ensures.grows.store

pub add_row-requires-clause-held : goal.add_row-requires-clause-held
add_row-requires-clause-held c =
    let methods = map seen_method c.args.methods.now in
    let keys = c.args.keys.now in
    let rows = c.args.rows.now in
    let versions = c.args.self.now.versions in
    let summaries = c.args.self.now.summaries in
    let whole = c.args.whole.now.items in
    let held = first_held methods keys versions summaries whole (supers c.args.graph.now c.args.class) c.requires.held in
    held_after methods keys versions summaries c.first_of-first.result c.add_classes.new.versions c.add_classes.new.summaries c.in_ok-above.above (items_of rows c.as_slice.result.now) c.in_ok-above.ensures
    (items_small (length c.args.graph.now) keys rows c.requires.items c.as_slice.result.now) (subst (λ a. IsHeld methods keys versions summaries a) (sym c.first_of-first.ensures) held)

pub returns : goal.returns
returns c =
    let class = c.args.class in
    let extras = c.args.extras.now in
    let rows = c.args.rows.now in
    let in_extras = subst (λ n. class < n) (sym c.requires.extras) c.requires.class in
    let in_rows = subst (λ n. class < n) (sym c.requires.items.count) c.requires.class in
    class_added (map seen_method c.args.methods.now) c.args.keys.now rows (get_or extras class []) class (first_above (supers c.args.graph.now class) c.args.whole.now.items) c.args.self.now.versions c.args.self.now.summaries c.args.self.now.above.items c.args.whole.now.items
    c.add_classes.new.versions c.add_classes.new.summaries c.in_ok-above.above c.add_row.new.versions c.add_row.new.summaries c.in_ok-own.own c.first_of-first.result c.as_slice.result.now c.as_slice-2.result.now
    c.first_of-first.ensures (c.as_slice.ensures ∙ (c.index-extras-class.is ∙ get_or_default extras class c.index-extras-class.result [] in_extras))
    (c.as_slice-2.ensures ∙ (c.index-rows-class.is ∙ get_or_default rows class c.index-rows-class.result [] in_rows)) c.in_ok-above.ensures c.in_ok-own.ensures
