use Rattle.std.proofs.Common.{take}
use Rattle.std.specs.List.{AllZip}
use Rattle.jesc_names.specs.Program.{IsParam}
use Rattle.jesc_names.proofs.method_rows.params.Given as goal

abbrev pub invariant-loop-tree : goal.invariant-loop-tree
invariant-loop-tree l = AllZip (IsParam l.names.classes.now l.names.order.now) (take l.tree-index l.trees) l.params
