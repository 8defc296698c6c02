use Rattle.std.proofs.Common.{map, take}
use Rattle.jesc_members.specs.Seen.{seen_method}
use Rattle.jesc_members.specs.SummaryKnown.{Adds, items_of}
use Rattle.jesc_members.proofs.summary_layers.add_classes.Given as goal

abbrev pub invariant-loop-class : goal.invariant-loop-class
invariant-loop-class l = Adds (map seen_method l.methods) l.keys l.fn.versions l.fn.summaries l.fn.above l.versions l.summaries l.above (items_of l.rows (take l.class-index l.classes))
