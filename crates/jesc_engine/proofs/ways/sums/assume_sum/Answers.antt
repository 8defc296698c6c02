use Rattle.jesc_engine.proofs.Sums.{summing_start, summing_step}
use Rattle.jesc_engine.proofs.ways.sums.assume_sum.Goals as goal

pub operate-requires-clause-left : goal.operate-requires-clause-left
operate-requires-clause-left c = c.loop-operation.invariant.below

pub operate-requires-clause-right : goal.operate-requires-clause-right
operate-requires-clause-right c = c.atom_of-y.ensures.below c.loop-operation.facts.fresh c.loop-operation.invariant.scope

pub loop-operation-init : goal.loop-operation-init
loop-operation-init c =
    summing_start c.args.atoms.now c.args.outcome c.args.facts.now c.atom_of-x.result c.as_slice-operation-items.result.now
    (c.atom_of-x.ensures.below c.args.facts.now.fresh c.requires) c.requires

pub loop-operation-preserved : goal.loop-operation-preserved
loop-operation-preserved c =
    summing_step c.args.atoms.now c.args.outcome c.args.facts.now c.atom_of-x.result c.as_slice-operation-items.result.now
    c.loop-operation.facts c.loop-operation.x c.loop-operation.operation-index _ c.atom_of-y.result c.in_ok-x.x c.operate.new.self
    c.loop-operation-test.true c.loop-operation.invariant c.atom_of-y.ensures.value c.in_ok-x.ensures.0 c.in_ok-x.ensures.1
