use Rattle.std.proofs.Common.{◌≡◌, take}
use Rattle.jesc_tree.proofs.+copy_expr.Given as goal

abbrev pub invariant-copy::expr::copy_exprs-loop-e : goal.invariant-copy::expr::copy_exprs-loop-e
invariant-copy::expr::copy_exprs-loop-e l = l.copies ≡ take l.e-index l.e-items
