use Rattle.std.proofs.Common.{◌≡◌, length, map, take}
use Rattle.jesc_members.proofs.method_keys.method_counts.Given as goal

abbrev pub invariant-loop-method : goal.invariant-loop-method
invariant-loop-method l = l.counts ≡ map (λ m. length m.tree.now.params) (take l.method-index l.methods)
