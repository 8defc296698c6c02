use Rattle.std.proofs.Common.{[], arith}
use Rattle.std.proofs.lemmas.List.{get_or_read}
use Rattle.jesc_names.proofs.TablesLists.{class_inside, field_listed}
use Rattle.jesc_names.proofs.field_order.fields_by_class.Goals as goal

pub index_mut-requires : goal.index_mut-requires
index_mut-requires c =
    let below = class_inside c.args.fields.now c.loop-i.i c.index-fields-i.result c.loop-i-test.true c.index-fields-i.is c.args.count c.requires.within in
    omega (arith, below, c.loop-i.invariant.count)

pub loop-i-preserved : goal.loop-i-preserved
loop-i-preserved c =
    let fields = c.args.fields.now in
    let x = c.index-fields-i.result in
    let lists = c.loop-i.lists.items in
    let below = class_inside fields c.loop-i.i x c.loop-i-test.true c.index-fields-i.is c.args.count c.requires.within in
    field_listed fields c.loop-i.i x c.loop-i-test.true c.index-fields-i.is c.args.count lists c.index_mut.result.now c.push.new.self below c.loop-i.invariant
    (get_or_read lists x.number c.index_mut.result.now (omega (arith, below, c.loop-i.invariant.count)) c.index_mut.ensures.value []) c.in_ok-push.ensures.ok
