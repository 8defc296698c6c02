use Rattle.std.proofs.Common.{ℕ, ◌↔◌, Contains, map, take}
use Rattle.jesc_classes.specs.Entries.{id_in}
use Rattle.jesc_names.proofs.members.id_set.Given as goal

abbrev pub invariant-loop-number : goal.invariant-loop-number
invariant-loop-number l = (q : ℕ) → Contains l.set.keys q ↔ Contains (map (id_in l.ids) (take l.number-index l.numbers)) q
