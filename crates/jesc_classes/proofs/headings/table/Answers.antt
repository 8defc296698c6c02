use Rattle.std.proofs.Common.{sym, ◌∙◌, ◌+◌, ◌-◌, subst, get_or, arith}
use Rattle.jesc_classes.specs.Given.{ArePlaced}
use Rattle.jesc_classes.specs.Entries.{ExtendsOne, IsEntry}
use Rattle.jesc_classes.specs.Sources.{seen}
use Rattle.jesc_classes.specs.laws.Lawful.{each_at}
use Rattle.jesc_classes.proofs.Filled.{AreEntriesBelow, start, more, finish, is_given, seen_at, number_at, ids_found}
use Rattle.jesc_classes.proofs.headings.table.Goals as goal

pub loop-id-init : goal.loop-id-init
loop-id-init c =
    start c.args.given.now c.args.order.now c.in_ok-ids.ids.items c.requires.order (omega (arith, c.requires.whole)) c.in_ok-classes.classes
    c.in_ok-classes.ensures.names c.in_ok-classes.ensures.bare c.in_ok-classes.ensures.methods

pub overflow_sub-class : goal.overflow_sub-class
overflow_sub-class c = is_given c.args.given.now c.args.order.now c.requires.order c.requires.whole c.loop-id.id c.loop-id.invariant.low c.loop-id-test.true

pub entry-requires-clause-placed : goal.entry-requires-clause-placed
entry-requires-clause-placed c =
    let order = c.args.order.now in
    let x = c.index-list-order.result in
    each_at ArePlaced c.args.given.now (get_or order c.loop-id.id 0 - 7) (seen x) c.requires.placed
    (seen_at c.args.given.now order c.requires.order c.requires.whole c.loop-id.id c.loop-id.invariant.low c.loop-id-test.true c.list.result.now x c.list.ensures c.index-list-order.is)

pub entry-requires-clause-one : goal.entry-requires-clause-one
entry-requires-clause-one c =
    let order = c.args.order.now in
    let x = c.index-list-order.result in
    each_at ExtendsOne c.args.given.now (get_or order c.loop-id.id 0 - 7) (seen x) c.requires.one
    (seen_at c.args.given.now order c.requires.order c.requires.whole c.loop-id.id c.loop-id.invariant.low c.loop-id-test.true c.list.result.now x c.list.ensures c.index-list-order.is)

pub loop-id-preserved : goal.loop-id-preserved
loop-id-preserved c =
    let given = c.args.given.now in
    let order = c.args.order.now in
    let ids = c.in_ok-ids.ids.items in
    let id = c.loop-id.id in
    let x = c.index-list-order.result in
    let at = seen_at given order c.requires.order c.requires.whole id c.loop-id.invariant.low c.loop-id-test.true c.list.result.now x c.list.ensures c.index-list-order.is in
    let number = number_at given order c.requires.order c.requires.whole id c.loop-id.invariant.low c.loop-id-test.true in
    subst (AreEntriesBelow given order ids (id + 1)) (sym c.in_ok-push.ensures.ok)
    (more given order ids id (get_or order id 0 - 7) c.loop-id.classes (seen x) c.in_ok-entry.field-0 c.loop-id.invariant c.loop-id-test.true number at (subst (λ xs. IsEntry given xs (seen x) c.in_ok-entry.field-0) c.as_slice.ensures.value c.in_ok-entry.ensures.entry) c.in_ok-entry.ensures.plain)

pub returns : goal.returns
returns c =
    let given = c.args.given.now in
    let order = c.args.order.now in
    let ids = c.in_ok-ids.ids.items in
    finish given order ids c.loop-id.id c.loop-id.classes (c.in_ok-ids.ensures.count ∙ c.requires.whole)
    (ids_found given order ids c.requires.order c.requires.whole c.in_ok-ids.ensures.count c.in_ok-ids.ensures.ids) (omega (arith, c.loop-id-test.false)) c.loop-id.invariant
