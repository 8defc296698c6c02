use Rattle.std.proofs.Common.{◌≡◌, drop}
use Rattle.jesc_lookup.specs.Layers.{first_keyed}
use Rattle.jesc_members.proofs.method_keys.first_counted.Given as goal

abbrev pub invariant-loop-item : goal.invariant-loop-item
invariant-loop-item l = first_keyed l.counts l.count l.row ≡ first_keyed l.counts l.count (drop l.item-index l.row)
