use Rattle.std.proofs.Common.{◌≡◌, ◌++◌, map, take}
use Rattle.jesc_tree.specs.Subtypes.{parent_list}
use Rattle.jesc_meanings.proofs.rows.supertypes.Given as goal

abbrev pub invariant-loop-interface : goal.invariant-loop-interface
invariant-loop-interface l = l.list ≡ parent_list l.class.parent ++ map (λ i. i.0) (take l.interface-index l.class.interfaces)
