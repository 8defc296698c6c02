use Rattle.std.proofs.Common.{sym, ◌∙◌}
use Rattle.jesc_classes.proofs.Firsts.{added_where_ok, had}
use Rattle.jesc_classes.proofs.index.add_first.Goals as goal

pub returns-in-Some : goal.returns-in-Some
returns-in-Some c = had c.args.names.now c.args.name.now c.args.number c.in-Some.field-0 (sym c.get.ensures ∙ c.in-Some.is)

pub returns-in-None : goal.returns-in-None
returns-in-None c = added_where_ok c.add.result c.args.names.now c.add.new.self c.args.name.now c.args.number c.add.ensures.ok
