use Rattle.jesc_lookup.proofs.TrieSteps.{puts_on_left, puts_on_right}
use Rattle.jesc_lookup.proofs.tries.put_in.Goals as goal

pub loop-level-preserved-then-rest-size : goal.loop-level-preserved-then-rest-size
loop-level-preserved-then-rest-size c =
    let l = c.loop-level in
    puts_on_left c.args.bits c.args.nodes.now c.args.root c.args.key c.args.value c.place-first.result l.nodes l.level l.size l.node l.rest c.place-next.result c.len-in-loop-level.result c.as_slice.result.now c.push.new.self
    l.invariant c.loop-level-test.true c.if-rest-size.true c.as_slice.ensures c.len-in-loop-level.ensures c.place-next.ensures c.in_ok-push.ensures.ok

pub loop-level-preserved : goal.loop-level-preserved
loop-level-preserved c =
    let l = c.loop-level in
    puts_on_right c.args.bits c.args.nodes.now c.args.root c.args.key c.args.value c.place-first.result l.nodes l.level l.size l.node l.rest c.place-next.result c.len-in-loop-level.result c.as_slice.result.now
    c.push-else-rest-size.new.self l.invariant c.loop-level-test.true c.if-rest-size.false c.as_slice.ensures c.len-in-loop-level.ensures c.place-next.ensures c.in_ok-push-2.ensures.ok
