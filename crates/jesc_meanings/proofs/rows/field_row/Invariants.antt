use Rattle.std.proofs.Common.{◌≡◌, map, take}
use Rattle.jesc_meanings.proofs.rows.field_row.Given as goal

abbrev pub invariant-loop-field : goal.invariant-loop-field
invariant-loop-field l = l.row ≡ map (λ x. x.0) (take l.field-index l.fields)
