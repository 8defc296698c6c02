use Rattle.std.proofs.Common.{map, take}
use Rattle.jesc_tree.proofs.Sets.{Adds}
use Rattle.jesc_tree.proofs.subtype.add_all.Given as goal

abbrev pub invariant-loop-interface : goal.invariant-loop-interface
invariant-loop-interface l = Adds l.initial.met.keys (map (λ i. i.0) (take l.interface-index l.interfaces)) l.met.keys
