use Rattle.std.proofs.Common.{◌∙◌, sym}
use Rattle.jesc_classes.specs.laws.Graphs.{class_within}
use Rattle.jesc_names.proofs.class_ids.named_id.Goals as goal

pub class_id-requires-clause-within : goal.class_id-requires-clause-within
class_id-requires-clause-within c = class_within c.args.names.classes.now c.args.name.now c.in-Some.number (sym c.find.ensures ∙ c.in-Some.is)
