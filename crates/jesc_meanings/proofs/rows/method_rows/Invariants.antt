use Rattle.std.proofs.Common.{◌≡◌, take}
use Rattle.jesc_meanings.specs.Meanings.{method_rows}
use Rattle.jesc_meanings.proofs.rows.method_rows.Given as goal

abbrev pub invariant-loop-class : goal.invariant-loop-class
invariant-loop-class l = l.rows ≡ method_rows (take l.class-index l.classes)
