use Rattle.std.proofs.Common.{◌≡◌, ◌+◌, ◌≤◌, map}
use Rattle.jesc_names.specs.Program.{counted}
use Rattle.jesc_names.proofs.class_rows.method_ids.Given as goal

abbrev pub invariant-loop : goal.invariant-loop
invariant-loop l = record {
  ids : map (λ f. f.0) l.ids ≡ counted l.fn.next l.counter;
  next : l.next ≡ l.fn.next + l.counter;
  few : l.counter ≤ l.count;
}
