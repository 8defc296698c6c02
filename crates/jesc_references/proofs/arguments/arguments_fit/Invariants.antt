use Rattle.std.proofs.Common.{◌≡◌, map}
use Rattle.jesc_ast.specs.Trees as ast
use Rattle.jesc_tree.specs.Trees.{view}
use Rattle.jesc_sites.specs.Sites.{setting}
use Rattle.jesc_references.specs.Calls.{arguments_fit}
use Rattle.jesc_references.proofs.Fitting.{from}
use Rattle.jesc_references.proofs.arguments.arguments_fit.Given as goal

abbrev pub invariant-loop-i : goal.invariant-loop-i
invariant-loop-i l =
    let s = setting l.site in
    arguments_fit s.classes s.lines (map view l.args) l.params (map ast.view l.trees) ≡ from s.classes s.lines l.i (map view l.args) l.params (map ast.view l.trees)
