use Rattle.std.proofs.Common.{◌≡◌, take}
use Rattle.jesc_tree.proofs.copy.spec.copy_specs.Given as goal

abbrev pub invariant-loop-spec : goal.invariant-loop-spec
invariant-loop-spec l = l.copies ≡ take l.spec-index l.spec-items
