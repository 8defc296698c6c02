use Rattle.std.proofs.Common.{take}
use Rattle.jesc_members.specs.Keys.{AreRows}
use Rattle.jesc_members.proofs.keys.rows_of.Given as goal

abbrev pub invariant-loop-i : goal.invariant-loop-i
invariant-loop-i l = AreRows l.classes (take l.i l.owners) l.rows.items
