use Rattle.std.proofs.Common.{◌≡◌, ◌++◌, drop}
use Rattle.jesc_lookup.proofs.lines.listed.Given as goal

abbrev pub invariant-loop-at : goal.invariant-loop-at
invariant-loop-at l = l.list ++ drop l.at l.rows.items ≡ l.fn.rows.items
