use Rattle.std.proofs.Common.{sym, arith}
use Rattle.jesc_lookup.specs.Tries.{map_of}
use Rattle.jesc_lookup.proofs.TrieSteps.{at_beyond, goes_left, goes_right, map_size}
use Rattle.jesc_lookup.proofs.tries.find.Goals as goal

pub returns-then-rest-size : goal.returns-then-rest-size
returns-then-rest-size c =
    let a = c.args in
    sym (at_beyond (map_of a.bits a.nodes.now a.root) a.key (omega (arith, map_size a.bits a.nodes.now a.root, c.power-size.ensures, c.if-rest-size.true)))

pub loop-level-preserved-then-rest-size-2 : goal.loop-level-preserved-then-rest-size-2
loop-level-preserved-then-rest-size-2 c =
    let l = c.loop-level in
    goes_left c.args.nodes.now _ l.level l.size l.node l.rest l.invariant c.loop-level-test.true c.if-rest-size-2.true

pub loop-level-preserved : goal.loop-level-preserved
loop-level-preserved c =
    let l = c.loop-level in
    goes_right c.args.nodes.now _ l.level l.size l.node l.rest l.invariant c.loop-level-test.true c.if-rest-size-2.false
