use Rattle.std.proofs.Common.{◌≡◌, take}
use Rattle.jesc_tree.proofs.copy.spec.copy_onlys.Given as goal

abbrev pub invariant-loop-only : goal.invariant-loop-only
invariant-loop-only l = l.copies ≡ take l.only-index l.only-items
