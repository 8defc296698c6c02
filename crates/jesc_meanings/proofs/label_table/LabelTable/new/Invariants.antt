use Rattle.std.proofs.Common.{map, take}
use Rattle.jesc_meanings.specs.Labels.{IsTableOf, seen}
use Rattle.jesc_meanings.proofs.label_table.LabelTable.new.Given as goal

abbrev pub invariant-loop-i : goal.invariant-loop-i
invariant-loop-i l = IsTableOf (take l.i (map seen l.labels)) l.table.names l.table.rows.items
