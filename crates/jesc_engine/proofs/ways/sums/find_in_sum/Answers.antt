use Rattle.std.proofs.Common.{rules}
use Rattle.jesc_engine.specs.Ways.{no_outcome}
use Rattle.jesc_engine.proofs.Sums.{summing_start, summing_step, extends_step, extends_end}
use Rattle.jesc_engine.proofs.ways.sums.find_in_sum.Goals as goal

pub find_overflow-requires-clause-left : goal.find_overflow-requires-clause-left
find_overflow-requires-clause-left c = c.loop-operation.invariant.0.below

pub find_overflow-requires-clause-right : goal.find_overflow-requires-clause-right
find_overflow-requires-clause-right c = c.atom_of-y.ensures.below c.loop-operation.facts.fresh c.loop-operation.invariant.0.scope

pub loop-operation-init : goal.loop-operation-init
loop-operation-init c = (
  summing_start c.args.atoms.now no_outcome c.args.facts.now c.atom_of-x.result c.as_slice-operation-items.result.now
      (c.atom_of-x.ensures.below c.args.facts.now.fresh c.requires) c.requires,
  λ final h. h,
)

pub loop-operation-preserved : goal.loop-operation-preserved
loop-operation-preserved c = (
  summing_step c.args.atoms.now no_outcome c.args.facts.now c.atom_of-x.result c.as_slice-operation-items.result.now
      c.loop-operation.facts c.loop-operation.x c.loop-operation.operation-index _ c.atom_of-y.result c.in_ok-x.x c.find_overflow.new.facts
      c.loop-operation-test.true c.loop-operation.invariant.0 c.atom_of-y.ensures.value c.in_ok-x.ensures.facts.0 c.in_ok-x.ensures.facts.1,
  λ final h. c.loop-operation.invariant.1 final
      (extends_step c.args.atoms.now no_outcome c.as_slice-operation-items.result.now c.loop-operation.facts c.loop-operation.x
      c.loop-operation.findings c.loop-operation.operation-index _ c.atom_of-y.result c.in_ok-x.x c.find_overflow.new.facts c.find_overflow.new.findings
      c.loop-operation-test.true c.atom_of-y.ensures.value c.in_ok-x.ensures.facts.0 c.in_ok-x.ensures.facts.1 c.in_ok-x.ensures.findings final h),
)

pub returns-clause-findings : goal.returns-clause-findings
returns-clause-findings c =
    extends_end c.args.atoms.now no_outcome c.args.sum.now c.as_slice-operation-items.result.now c.args.facts.now c.atom_of-x.result c.args.findings.now
    c.loop-operation.facts c.loop-operation.x c.loop-operation.findings c.loop-operation.operation-index
    c.atom_of-x.ensures.value c.as_slice-operation-items.ensures (search rules) c.loop-operation.invariant.1
