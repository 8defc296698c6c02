use Rattle.std.proofs.Common.{◌≡◌, codes, map, take}
use Rattle.std.specs.List.{list_any}
use Rattle.jesc_classes.specs.Headings.{is_word}
use Rattle.jesc_classes.specs.Sources.{seen}
use Rattle.jesc_classes.proofs.index.finals_of.Given as goal

abbrev pub invariant-loop-class : goal.invariant-loop-class
invariant-loop-class l = l.finals ≡ map (λ s. list_any (is_word (codes "final")) s.tree.modifiers) (map seen (take l.class-index l.list))
