use Rattle.jesc_tree.proofs.Sets.{added}
use Rattle.jesc_names.proofs.members.add.Goals as goal

pub returns-in-Ok : goal.returns-in-Ok
returns-in-Ok c = added c.args.set.now c.insert.new.self c.args.id c.in-Ok.ensures.updates
