use Rattle.std.proofs.Common.{◌≡◌, ◌++◌, map, take}
use Rattle.jesc_classes.specs.Headings.{source}
use Rattle.jesc_classes.specs.Sources.{seen}
use Rattle.jesc_classes.proofs.index.add_classes.Given as goal

abbrev pub invariant-loop-tree : goal.invariant-loop-tree
invariant-loop-tree l = map seen l.list ≡ map seen l.fn.list ++ map (source l.file.lines) (take l.tree-index l.tree-items)
