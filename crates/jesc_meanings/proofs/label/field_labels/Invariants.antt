use Rattle.std.proofs.Common.{◌≡◌, map, take}
use Rattle.jesc_meanings.specs.Labels.{field_label, seen}
use Rattle.jesc_meanings.proofs.label.field_labels.Given as goal

abbrev pub invariant-loop-field : goal.invariant-loop-field
invariant-loop-field l = map seen l.labels ≡ map field_label (take l.field-index l.fields)
