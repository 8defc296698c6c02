use Rattle.jesc_names.proofs.TablesLists.{order_more, sizes_more}
use Rattle.jesc_names.proofs.field_order.field_order.Goals as goal

pub loop-class-preserved : goal.loop-class-preserved
loop-class-preserved c =
    let lists = c.args.lists.now in
    let classes = c.args.classes.now in
    let i = c.loop-class.class-index in
    let row = c.index-lists-class.result in
    let own = c.as_slice-own.result.now in
    record {
      numbers = order_more lists classes i c.loop-class-test.true c.requires row own c.index-lists-class.is c.as_slice-own.ensures c.loop-class.numbers c.append.new.numbers c.loop-class.invariant.numbers c.in_ok-append.ensures;
      counts = sizes_more lists classes i c.loop-class-test.true c.requires row own c.index-lists-class.is c.as_slice-own.ensures c.loop-class.counts c.push.new.self c.loop-class.invariant.counts c.in_ok-push.ensures.ok;
    }
