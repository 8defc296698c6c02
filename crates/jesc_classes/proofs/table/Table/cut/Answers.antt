use Rattle.std.proofs.Common.{◌∙◌, ap, take}
use Rattle.jesc_classes.proofs.Shown.{shown, shown-take}
use Rattle.jesc_classes.proofs.table.Table.cut.Goals as goal

pub returns : goal.returns
returns g c = ap shown c.truncate.ensures.entries ∙ shown-take c.args.kept c.self.inside.map.entries ∙ ap (take c.args.kept) c.self.view_is
