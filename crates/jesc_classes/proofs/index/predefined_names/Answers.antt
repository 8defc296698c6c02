use Rattle.std.proofs.Common.{map}
use Rattle.jesc_tree.specs.Programs.{predefined}
use Rattle.jesc_classes.proofs.Firsts.{next_first}
use Rattle.jesc_classes.proofs.index.predefined_names.Goals as goal

pub loop-number-preserved : goal.loop-number-preserved
loop-number-preserved c =
    next_first c.loop-number.names c.add_first.new.names (map (λ p. p.0) predefined) c.predefined_name.result.now c.loop-number.number c.loop-number-test.true c.predefined_name.ensures c.in_ok-add_first.ensures c.loop-number.invariant
