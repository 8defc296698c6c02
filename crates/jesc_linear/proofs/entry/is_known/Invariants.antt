use Rattle.std.proofs.Common.{◌≡◌, drop}
use Rattle.std.specs.List.{list_any}
use Rattle.jesc_linear.specs.Courses.{Entry}
use Rattle.jesc_linear.specs.Elimination.{same_form}
use Rattle.jesc_linear.specs.Tables.{entries_of}
use Rattle.jesc_linear.proofs.entry.is_known.Given as goal

abbrev pub invariant-loop-slot : goal.invariant-loop-slot
invariant-loop-slot l = list_any (λ (entry : Entry). same_form entry.row.form l.form) (entries_of l.log l.slots) ≡ list_any (λ (entry : Entry). same_form entry.row.form l.form) (entries_of l.log (drop l.slot-index l.slots))
