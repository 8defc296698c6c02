use Rattle.std.proofs.Common.{◌∙◌, ap}
use Rattle.jesc_classes.specs.Named.{find}
use Rattle.jesc_classes.proofs.Shown.{find-shown}
use Rattle.jesc_classes.proofs.table.Table.get.Goals as goal

pub returns : goal.returns
returns g c =
    c.copied.ensures ∙ c.get.ensures.value ∙ find-shown c.args.name.now c.self.inside.map.entries ∙ ap (find c.args.name.now) c.self.view_is
