use Rattle.std.proofs.Common.{◌∙◌, ap, take}
use Rattle.jesc_first.proofs.Shown.{shown}
use Rattle.jesc_first.proofs.Equal.{take_shown}
use Rattle.jesc_first.proofs.reader.names.Names.cut.Goals as goal

pub returns : goal.returns
returns c = ap shown c.truncate.ensures.keys ∙ take_shown c.args.len c.self.inside.set.keys ∙ ap (take c.args.len) c.self.view_is
