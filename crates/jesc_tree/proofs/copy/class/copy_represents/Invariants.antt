use Rattle.std.proofs.Common.{◌≡◌, take}
use Rattle.jesc_tree.proofs.copy.class.copy_represents.Given as goal

abbrev pub invariant-loop-pair : goal.invariant-loop-pair
invariant-loop-pair l = l.copies ≡ take l.pair-index l.pair-items
