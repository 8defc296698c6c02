use Rattle.std.proofs.Common.{◌≡◌, replicate}
use Rattle.jesc_members.specs.SummaryLayers.{nothing_above}
use Rattle.jesc_members.proofs.summary_layers.nothings.Given as goal

abbrev pub invariant-loop : goal.invariant-loop
invariant-loop l = l.all.items ≡ replicate l.counter nothing_above
