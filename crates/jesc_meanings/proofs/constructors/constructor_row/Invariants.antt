use Rattle.std.proofs.Common.{map, take}
use Rattle.jesc_meanings.specs.Rows.{TellsConstructors}
use Rattle.jesc_meanings.proofs.constructors.constructor_row.Given as goal

abbrev pub invariant-loop-id : goal.invariant-loop-id
invariant-loop-id l = TellsConstructors l.methods (map (λ m. m.0) (take l.id-index l.ids)) l.row
