use Rattle.jesc_classes.proofs.Start.{starts, enters, all_entered}
use Rattle.jesc_classes.proofs.order.Progress.start.Goals as goal

pub loop-class-init : goal.loop-class-init
loop-class-init c = starts c.args.graph.now c.in_ok-progress.progress c.in_ok-progress.ensures.sized c.in_ok-progress.ensures.empty

pub loop-class-preserved : goal.loop-class-preserved
loop-class-preserved c = enters c.args.graph.now c.loop-class.class c.loop-class.progress c.settle.new.self c.loop-class-test.true c.loop-class.invariant c.in_ok-settle.ensures

pub returns-clause-keeps : goal.returns-clause-keeps
returns-clause-keeps c = all_entered c.args.graph.now c.loop-class.class c.loop-class.progress c.loop-class-test.false c.loop-class.invariant
