use Rattle.std.proofs.Common.{◌≡◌, map, not, take}
use Rattle.jesc_members.specs.Methods.{has_body}
use Rattle.jesc_members.proofs.method_layers.marks_of.Given as goal

abbrev pub invariant-loop-method : goal.invariant-loop-method
invariant-loop-method l = l.marks ≡ map (λ m. not (has_body m.tree.now)) (take l.method-index l.methods)
