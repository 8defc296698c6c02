use Rattle.std.proofs.Common.{ap, ◌∙◌}
use Rattle.jesc_engine.specs.Ways.{Facts}
use Rattle.jesc_engine.proofs.Parameters.{ranges_step}
use Rattle.jesc_engine.proofs.ways.parameters.parameter_facts.Goals as goal

pub loop-slot-preserved : goal.loop-slot-preserved
loop-slot-preserved c = (
  ranges_step c.loop-slot.slot c.args.parameters.now c.loop-slot.facts.rows c.keep_in_range.new.self.rows c.loop-slot-test.true
      (ap (λ (f : Facts). f.rows) c.in_ok-keep_in_range.ensures) c.loop-slot.invariant.0,
  ap (λ (f : Facts). f.fresh) c.in_ok-keep_in_range.ensures ∙ c.loop-slot.invariant.1,
)
