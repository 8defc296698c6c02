use Rattle.std.proofs.Common.{◌≡◌, take}
use Rattle.jesc_tree.proofs.spec.TFrame.copy.Given as goal

abbrev pub invariant-loop-store : goal.invariant-loop-store
invariant-loop-store l = l.stores ≡ take l.store-index l.store-items
