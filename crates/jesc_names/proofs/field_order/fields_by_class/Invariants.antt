use Rattle.std.proofs.Common.{map, take}
use Rattle.jesc_members.specs.Seen.{seen_field}
use Rattle.jesc_names.proofs.TablesLists.{AreListed}
use Rattle.jesc_names.proofs.field_order.fields_by_class.Given as goal

abbrev pub invariant-loop-i : goal.invariant-loop-i
invariant-loop-i l = AreListed l.count l.lists.items (take l.i (map seen_field l.fields))
