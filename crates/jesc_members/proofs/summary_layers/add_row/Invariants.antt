use Rattle.std.proofs.Common.{map, take}
use Rattle.jesc_members.specs.Seen.{seen_method}
use Rattle.jesc_members.specs.SummaryKnown.{Adds}
use Rattle.jesc_members.proofs.summary_layers.add_row.Given as goal

abbrev pub invariant-loop-method : goal.invariant-loop-method
invariant-loop-method l = Adds (map seen_method l.methods) l.keys l.fn.versions l.fn.summaries l.fn.above l.versions l.summaries l.above (take l.method-index l.row)
