use Rattle.jesc_tree.proofs.Sets.{added}
use Rattle.jesc_classes.proofs.order.add.Goals as goal

pub returns-in-Ok : goal.returns-in-Ok
returns-in-Ok c = added c.args.ready.now c.insert.new.self c.args.class c.in-Ok.ensures.updates
