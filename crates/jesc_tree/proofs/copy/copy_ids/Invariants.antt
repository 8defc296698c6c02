use Rattle.std.proofs.Common.{◌≡◌, take}
use Rattle.jesc_tree.proofs.copy.copy_ids.Given as goal

abbrev pub invariant-loop-id : goal.invariant-loop-id
invariant-loop-id g l = l.copy ≡ take l.id-index l.id-items
