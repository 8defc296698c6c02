use Rattle.jesc_names.proofs.TablesClasses.{filled_more}
use Rattle.jesc_names.proofs.class_rows.with_members.Goals as goal

pub loop-i-preserved : goal.loop-i-preserved
loop-i-preserved c =
    filled_more c.args.classes.now c.args.field_counts.now c.args.method_counts.now c.loop-i.i c.loop-i.table c.loop-i.next_field c.loop-i.next_method c.loop-i.invariant c.requires.fields c.requires.methods
    c.index-classes-i.result c.in_ok-with_lists.field-0 c.in_ok-fields.fields c.in_ok-methods.methods c.push.new.self c.field_ids.new.next c.method_ids.new.next
    c.loop-i-test.true c.index-classes-i.is c.in_ok-with_lists.ensures.plain
    c.in_ok-with_lists.ensures.fields c.in_ok-fields.ensures.ids c.in_ok-fields.ensures.next
    c.in_ok-with_lists.ensures.methods c.in_ok-methods.ensures.ids c.in_ok-methods.ensures.next c.in_ok-push.ensures.ok
