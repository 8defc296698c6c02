use Rattle.std.proofs.Common.{◌∙◌, [], length, get_or, map, subst, take}
use Rattle.std.proofs.lemmas.List.{take_all, get_or_default}
use Rattle.jesc_members.specs.Seen.{seen_method}
use Rattle.jesc_members.specs.SummaryKnown.{Adds, items_of}
use Rattle.jesc_members.proofs.SummarySteps.{adds_both, adds_none, held_after, items_more, items_small}
use Rattle.jesc_members.proofs.summary_layers.add_classes.Goals as goal

pub loop-class-init : goal.loop-class-init
loop-class-init c = adds_none (map seen_method c.args.methods.now) c.args.keys.now c.args.versions.now c.args.summaries.now c.args.above c.requires.store

pub add_row-requires-clause-store : goal.add_row-requires-clause-store
add_row-requires-clause-store c = c.loop-class.invariant.grows.store

pub add_row-requires-clause-held : goal.add_row-requires-clause-held
add_row-requires-clause-held c =
    let done = take c.loop-class.class-index c.args.classes.now in
    held_after (map seen_method c.args.methods.now) c.args.keys.now c.args.versions.now c.args.summaries.now c.args.above c.loop-class.versions c.loop-class.summaries c.loop-class.above (items_of c.args.rows.now done)
    c.loop-class.invariant (items_small (length c.args.rows.now) c.args.keys.now c.args.rows.now c.requires.items done) c.requires.held

pub loop-class-preserved : goal.loop-class-preserved
loop-class-preserved c =
    let methods = map seen_method c.args.methods.now in
    let keys = c.args.keys.now in
    let rows = c.args.rows.now in
    let classes = c.args.classes.now in
    let i = c.loop-class.class-index in
    let class = get_or classes i 0 in
    let inside = c.requires.within i 0 c.loop-class-test.true in
    let is = c.as_slice-row.ensures ∙ (c.index-rows-class.is ∙ get_or_default rows class c.index-rows-class.result [] inside) in
    subst (λ xs. Adds methods keys c.args.versions.now c.args.summaries.now c.args.above c.add_row.new.versions c.add_row.new.summaries c.in_ok-above.above xs) (items_more rows classes i c.loop-class-test.true)
    (adds_both methods keys c.args.versions.now c.args.summaries.now c.args.above c.loop-class.versions c.loop-class.summaries c.loop-class.above c.add_row.new.versions c.add_row.new.summaries c.in_ok-above.above
    (items_of rows (take i classes)) (get_or rows class []) c.loop-class.invariant
    (subst (λ row. Adds methods keys c.loop-class.versions c.loop-class.summaries c.loop-class.above c.add_row.new.versions c.add_row.new.summaries c.in_ok-above.above row) is c.in_ok-above.ensures))

pub returns : goal.returns
returns c =
    subst (λ cs. Adds (map seen_method c.args.methods.now) c.args.keys.now c.args.versions.now c.args.summaries.now c.args.above c.loop-class.versions c.loop-class.summaries c.loop-class.above (items_of c.args.rows.now cs))
    (take_all c.loop-class.class-index c.args.classes.now c.loop-class-test.false) c.loop-class.invariant
