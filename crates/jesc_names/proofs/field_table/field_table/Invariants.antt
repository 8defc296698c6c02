use Rattle.std.proofs.Common.{take}
use Rattle.std.specs.List.{AllZip}
use Rattle.jesc_names.specs.TablesRows.{IsRow}
use Rattle.jesc_names.proofs.field_table.field_table.Given as goal

abbrev pub invariant-loop-number : goal.invariant-loop-number
invariant-loop-number l = AllZip (IsRow l.names.classes.now l.names.order.now) (take l.number-index l.ids.order.now) l.table
