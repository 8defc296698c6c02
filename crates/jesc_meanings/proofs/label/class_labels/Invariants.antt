use Rattle.std.proofs.Common.{◌≡◌, map, take}
use Rattle.jesc_meanings.specs.Labels.{class_label, seen}
use Rattle.jesc_meanings.proofs.label.class_labels.Given as goal

abbrev pub invariant-loop-class : goal.invariant-loop-class
invariant-loop-class l = map seen l.labels ≡ map class_label (take l.class-index l.classes)
