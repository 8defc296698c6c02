use Rattle.std.proofs.Common.{◌≡◌, ◌≤◌, length}
use Rattle.jesc_names.proofs.places.zeros.Given as goal

abbrev pub invariant-loop : goal.invariant-loop
invariant-loop l = (length l.zeros.items ≡ l.counter) × (l.counter ≤ l.count)
