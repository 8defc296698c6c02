use Rattle.std.proofs.Common.{◌≡◌, map, take}
use Rattle.jesc_meanings.specs.Labels.{method_label, seen}
use Rattle.jesc_meanings.proofs.label.method_labels.Given as goal

abbrev pub invariant-loop-method : goal.invariant-loop-method
invariant-loop-method l = map seen l.labels ≡ map method_label (take l.method-index l.methods)
