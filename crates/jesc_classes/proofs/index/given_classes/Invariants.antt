use Rattle.std.proofs.Common.{◌≡◌, map, take}
use Rattle.jesc_classes.specs.Headings.{sources}
use Rattle.jesc_classes.specs.Sources.{seen}
use Rattle.jesc_classes.proofs.index.given_classes.Given as goal

abbrev pub invariant-loop-file : goal.invariant-loop-file
invariant-loop-file l = map seen l.list ≡ sources (take l.file-index l.files)
