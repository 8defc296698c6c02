use Rattle.std.proofs.Common.{◌≡◌, ◌+◌, ◌-◌, ℕ, None, length, get_or}
use Rattle.jesc_meanings.proofs.row.Row.widen.Given as goal

abbrev pub invariant-loop-self : goal.invariant-loop-self
invariant-loop-self l = (k : ℕ) → get_or l.self-inside.items.items k None ≡ get_or l.fn.self k None

abbrev pub decreases-loop-self : goal.decreases-loop-self
decreases-loop-self l = (l.count + 1) - length l.self-inside.items.items
