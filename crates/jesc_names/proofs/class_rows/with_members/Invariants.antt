use Rattle.jesc_names.proofs.TablesClasses.{IsFilledTo}
use Rattle.jesc_names.proofs.class_rows.with_members.Given as goal

abbrev pub invariant-loop-i : goal.invariant-loop-i
invariant-loop-i l = IsFilledTo l.classes l.field_counts l.method_counts l.i l.table l.next_field l.next_method
