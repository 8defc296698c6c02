use Rattle.std.proofs.Common.{refl, arith}
use Rattle.jesc_engine.specs.Ways.{no_outcome}
use Rattle.jesc_engine.proofs.Conditions.{assuming_step}
use Rattle.jesc_engine.proofs.ways.conditions.assume_all.Goals as goal

pub assume-requires : goal.assume-requires
assume-requires c = c.loop-condition.invariant.scope

pub loop-condition-init : goal.loop-condition-init
loop-condition-init c = record { facts = refl; grows = omega arith; scope = c.requires }

pub loop-condition-preserved : goal.loop-condition-preserved
loop-condition-preserved c =
    assuming_step c.args.atoms.now no_outcome c.args.facts.now c.as_slice-condition-items.result.now c.loop-condition.facts c.loop-condition.condition-index
    c.condition-item.result c.assume.new.facts c.loop-condition-test.true c.condition-item.is c.loop-condition.invariant c.in_ok-assume.ensures
