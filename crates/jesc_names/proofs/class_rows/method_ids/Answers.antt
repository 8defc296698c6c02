use Rattle.std.proofs.Common.{arith}
use Rattle.jesc_tree.specs.declared.ids.MethodId.{MethodId}
use Rattle.jesc_names.proofs.TablesClasses.{ids_more}
use Rattle.jesc_names.proofs.class_rows.method_ids.Goals as goal

pub loop-preserved : goal.loop-preserved
loop-preserved c = record {
  ids = ids_more (λ (x : MethodId). x.0) c.loop.ids c.push.new.self (record { 0 = c.in_ok-step.field-0 }) c.args.next.now c.loop.counter c.loop.next c.in_ok-push.ensures.ok c.loop.invariant.ids c.in_ok-step.ensures.id c.loop.invariant.next;
  next = omega (arith, c.in_ok-step.ensures.next, c.loop.invariant.next);
  few = omega (arith, c.loop-test.true);
}
