use Rattle.std.proofs.Common.{map, take}
use Rattle.std.specs.List.{Contains}
use Rattle.jesc_members.specs.Seen.{seen_method}
use Rattle.jesc_members.proofs.SummaryLines.{AreDone}
use Rattle.jesc_members.proofs.summary_layers.SummaryLayers.new.Given as goal

abbrev pub invariant-loop-class : goal.invariant-loop-class
invariant-loop-class l = AreDone (Contains (take l.class-index l.order)) l.graph (map seen_method l.methods) l.keys l.rows l.layers.versions l.layers.summaries l.layers.above.items l.whole.items
