use Rattle.std.proofs.Common.{◌∙◌, sym}
use Rattle.jesc_members.proofs.method_layers.MethodLayers.key.Goals as goal

pub returns-in-None : goal.returns-in-None
returns-in-None c = absurd (c.requires.there (sym c.find.ensures ∙ c.in-None.is))
