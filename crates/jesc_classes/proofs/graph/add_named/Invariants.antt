use Rattle.std.proofs.Common.{◌≡◌, ◌++◌, drop}
use Rattle.jesc_classes.specs.Headings.{classes_named}
use Rattle.jesc_classes.proofs.graph.add_named.Given as goal

abbrev pub invariant-loop-word : goal.invariant-loop-word
invariant-loop-word l = l.fn.found ++ classes_named l.classes l.words ≡ l.found ++ classes_named l.classes (drop l.word-index l.words)
