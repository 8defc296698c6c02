use Rattle.std.proofs.Common.{◌∙◌, sym}
use Rattle.jesc_tree.proofs.Sets.{added}
use Rattle.jesc_members.proofs.GroupReach.{had, is_old}
use Rattle.jesc_members.proofs.reached.is_new.Goals as goal

pub returns-then-contains-clause-added : goal.returns-then-contains-clause-added
returns-then-contains-clause-added c = had c.args.met.now c.args.number (sym c.contains.ensures ∙ c.if-contains.true)

pub returns-then-contains-clause-old : goal.returns-then-contains-clause-old
returns-then-contains-clause-old c = is_old c.args.met.now c.args.number (sym c.contains.ensures ∙ c.if-contains.true)

pub returns-in-Ok-clause-added : goal.returns-in-Ok-clause-added
returns-in-Ok-clause-added c = added c.args.met.now c.insert.new.self c.args.number c.in-Ok.ensures.updates
