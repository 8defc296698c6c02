use Rattle.std.proofs.Common.{◌≡◌, map, take}
use Rattle.jesc_meanings.proofs.rows.method_row.Given as goal

abbrev pub invariant-loop-method : goal.invariant-loop-method
invariant-loop-method l = l.row ≡ map (λ x. x.0) (take l.method-index l.methods)
