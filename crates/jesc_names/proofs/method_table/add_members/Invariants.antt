use Rattle.std.proofs.Common.{map, take}
use Rattle.jesc_classes.specs.Sources.{seen}
use Rattle.jesc_names.specs.Program.{callable_in, joined}
use Rattle.jesc_names.specs.TablesRows.{Adds}
use Rattle.jesc_names.proofs.method_table.add_members.Given as goal

abbrev pub invariant-loop-member : goal.invariant-loop-member
invariant-loop-member l = Adds l.names.classes.now l.names.order.now (joined (map (λ m. callable_in l.number (seen l.class) m.node) (take l.member-index l.class.tree.now.members))) l.fn.methods l.methods
