use Rattle.std.proofs.Common.{◌≡◌, take}
use Rattle.jesc_meanings.specs.Meanings.{field_rows}
use Rattle.jesc_meanings.proofs.rows.field_rows.Given as goal

abbrev pub invariant-loop-class : goal.invariant-loop-class
invariant-loop-class l = l.rows ≡ field_rows (take l.class-index l.classes)
