use Rattle.std.proofs.Common.{◌≡◌, take}
use Rattle.jesc_tree.proofs.copy.spec.copy_signals.Given as goal

abbrev pub invariant-loop-signals : goal.invariant-loop-signals
invariant-loop-signals l = l.copies ≡ take l.signals-index l.signals-items
