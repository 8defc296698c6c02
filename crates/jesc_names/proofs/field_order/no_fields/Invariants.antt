use Rattle.std.proofs.Common.{ℕ, ◌≡◌, ◌≤◌, [], length, get_or}
use Rattle.jesc_names.proofs.field_order.no_fields.Given as goal

abbrev pub invariant-loop : goal.invariant-loop
invariant-loop l = (length l.lists.items ≡ l.counter) × (l.counter ≤ l.count) × ((class : ℕ) → get_or l.lists.items class [] ≡ [])
