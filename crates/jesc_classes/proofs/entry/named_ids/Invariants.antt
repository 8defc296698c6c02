use Rattle.std.proofs.Common.{◌≡◌, map, take}
use Rattle.jesc_classes.specs.Entries.{id_in}
use Rattle.jesc_classes.proofs.entry.named_ids.Given as goal

abbrev pub invariant-loop-number : goal.invariant-loop-number
invariant-loop-number l = map (λ i. i.0) l.found ≡ map (id_in l.ids) (take l.number-index l.number-items)
