use Rattle.std.proofs.Common.{◌≡◌, take}
use Rattle.jesc_tree.proofs.+copy_stmt.Given as goal

abbrev pub invariant-copy::stmt::copy_stmts-loop-stmt : goal.invariant-copy::stmt::copy_stmts-loop-stmt
invariant-copy::stmt::copy_stmts-loop-stmt l = l.copies ≡ take l.stmt-index l.stmt-items

abbrev pub invariant-copy::stmt::copy_try-loop-catch : goal.invariant-copy::stmt::copy_try-loop-catch
invariant-copy::stmt::copy_try-loop-catch l = l.catches ≡ take l.catch-index l.catch-items
