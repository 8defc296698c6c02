use Rattle.std.proofs.Common.{[]}
use Rattle.jesc_members.specs.Keys.{AreRows}
use Rattle.jesc_members.proofs.keys.empty_rows.Given as goal

abbrev pub invariant-loop-row : goal.invariant-loop-row
invariant-loop-row l = AreRows l._row [] l.rows.items
