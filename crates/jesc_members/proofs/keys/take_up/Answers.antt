use Rattle.std.proofs.Common.{◌∙◌, sym}
use Rattle.jesc_members.proofs.InheritNumbers.{added, took}
use Rattle.jesc_members.proofs.keys.take_up.Goals as goal

pub returns-in-Some : goal.returns-in-Some
returns-in-Some c = took c.args.names.now c.args.name.now c.args.number c.in-Some.key (sym c.get.ensures ∙ c.in-Some.is)

pub returns-in_ok-add-in-None : goal.returns-in_ok-add-in-None
returns-in_ok-add-in-None c = added c.args.names.now c.add.new.self c.args.name.now c.args.number (sym c.get.ensures ∙ c.in-None.is) c.in_ok-add-in-None.ensures.ok
