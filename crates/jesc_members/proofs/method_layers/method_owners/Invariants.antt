use Rattle.std.proofs.Common.{◌≡◌, map, take}
use Rattle.jesc_members.proofs.method_layers.method_owners.Given as goal

abbrev pub invariant-loop-method : goal.invariant-loop-method
invariant-loop-method l = l.owners ≡ map (λ m. m.number) (take l.method-index l.methods)
