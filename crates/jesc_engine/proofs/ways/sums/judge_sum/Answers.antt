use Rattle.std.proofs.Common.{rules}
use Rattle.jesc_engine.proofs.Sums.{summing_start, summing_step, continues_step, continues_end}
use Rattle.jesc_engine.proofs.ways.sums.judge_sum.Goals as goal

pub operate_on-requires-clause-left : goal.operate_on-requires-clause-left
operate_on-requires-clause-left c = c.loop-operation.invariant.0.below

pub operate_on-requires-clause-right : goal.operate_on-requires-clause-right
operate_on-requires-clause-right c = c.atom_of-y.ensures.below c.loop-operation.facts.fresh c.loop-operation.invariant.0.scope

pub loop-operation-init : goal.loop-operation-init
loop-operation-init c = (
  summing_start c.args.atoms.now c.args.outcome c.args.facts.now c.atom_of-x.result c.as_slice-operation-items.result.now
      (c.atom_of-x.ensures.below c.args.facts.now.fresh c.requires) c.requires,
  λ final h. h,
)

pub loop-operation-preserved : goal.loop-operation-preserved
loop-operation-preserved c = (
  summing_step c.args.atoms.now c.args.outcome c.args.facts.now c.atom_of-x.result c.as_slice-operation-items.result.now
      c.loop-operation.facts c.loop-operation.x c.loop-operation.operation-index _ c.atom_of-y.result c.in_ok-made.made.0 c.operate_on.new.facts
      c.loop-operation-test.true c.loop-operation.invariant.0 c.atom_of-y.ensures.value c.in_ok-made.ensures.0 c.in_ok-made.ensures.2,
  λ final h. c.loop-operation.invariant.1 final
      (continues_step c.args.atoms.now c.args.outcome c.as_slice-operation-items.result.now c.loop-operation.facts c.loop-operation.x
      c.loop-operation.answer c.loop-operation.operation-index _ c.atom_of-y.result c.in_ok-made.made.0 c.operate_on.new.facts c.in_ok-made.made.1
      c.loop-operation-test.true c.atom_of-y.ensures.value c.in_ok-made.ensures.0 c.in_ok-made.ensures.2 c.in_ok-made.ensures.1 final h),
)

pub returns-clause-answer : goal.returns-clause-answer
returns-clause-answer c =
    continues_end c.args.atoms.now c.args.outcome c.args.sum.now c.as_slice-operation-items.result.now c.args.facts.now c.atom_of-x.result c.args.known
    c.loop-operation.facts c.loop-operation.x c.loop-operation.answer c.loop-operation.operation-index
    c.atom_of-x.ensures.value c.as_slice-operation-items.ensures (search rules) c.loop-operation.invariant.1
