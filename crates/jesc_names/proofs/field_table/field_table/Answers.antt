use Rattle.std.proofs.Common.{ℕ, ◌<◌, List, length, get_or, sym, subst, arith}
use Rattle.std.proofs.lemmas.List.{get_or_default}
use Rattle.jesc_classes.specs.laws.Lawful.{each_at}
use Rattle.jesc_members.specs.Fields.{fields_of}
use Rattle.jesc_members.specs.Seen.{seen_field}
use Rattle.jesc_names.specs.TablesKnown.{IsReadyField}
use Rattle.jesc_names.specs.TablesRows.{IsRow}
use Rattle.jesc_names.proofs.TablesLists.{field_there, as_many_fields}
use Rattle.jesc_names.proofs.TablesOrder.{field_within}
use Rattle.jesc_names.proofs.TablesZips.{zip_more}
use Rattle.jesc_names.proofs.field_table.field_table.Goals as goal

pub bounds-fields-number : goal.bounds-fields-number
bounds-fields-number c =
    let given = c.args.names.classes.now in
    let within = subst (λ (xs : List ℕ). (i : ℕ) → i < length xs → get_or xs i 0 < length (fields_of given)) (sym c.requires.ids.order) (field_within given c.args.names.order.now) in
    let below = within c.loop-number.number-index c.loop-number-test.true in
    omega (arith, below, as_many_fields c.args.fields.now (fields_of given) c.requires.fields)

pub row-requires-clause-there : goal.row-requires-clause-there
row-requires-clause-there c =
    let given = c.args.names.classes.now in
    let within = subst (λ (xs : List ℕ). (i : ℕ) → i < length xs → get_or xs i 0 < length (fields_of given)) (sym c.requires.ids.order) (field_within given c.args.names.order.now) in
    let n = get_or c.args.ids.order.now c.loop-number.number-index 0 in
    let below = within c.loop-number.number-index c.loop-number-test.true in
    field_there c.args.fields.now (fields_of given) n c.index-fields-number.result c.requires.fields (omega (arith, below, as_many_fields c.args.fields.now (fields_of given) c.requires.fields)) c.index-fields-number.is

pub row-requires-clause-ready : goal.row-requires-clause-ready
row-requires-clause-ready c =
    let given = c.args.names.classes.now in
    let within = subst (λ (xs : List ℕ). (i : ℕ) → i < length xs → get_or xs i 0 < length (fields_of given)) (sym c.requires.ids.order) (field_within given c.args.names.order.now) in
    let n = get_or c.args.ids.order.now c.loop-number.number-index 0 in
    let below = within c.loop-number.number-index c.loop-number-test.true in
    let x = c.index-fields-number.result in
    each_at (IsReadyField given) (fields_of given) n (seen_field x) c.requires.ready
    (field_there c.args.fields.now (fields_of given) n x c.requires.fields (omega (arith, below, as_many_fields c.args.fields.now (fields_of given) c.requires.fields)) c.index-fields-number.is)

pub loop-number-preserved : goal.loop-number-preserved
loop-number-preserved c =
    let order = c.args.ids.order.now in
    let i = c.loop-number.number-index in
    zip_more (IsRow c.args.names.classes.now c.args.names.order.now) order c.loop-number.table c.push.new.self i (get_or order i 0) c.in_ok-row.field-0 c.loop-number-test.true
    (get_or_default order i 0 (get_or order i 0) c.loop-number-test.true) c.in_ok-push.ensures.ok c.loop-number.invariant (record { field = c.in_ok-row.ensures.field; below = c.in_ok-row.ensures.below })
