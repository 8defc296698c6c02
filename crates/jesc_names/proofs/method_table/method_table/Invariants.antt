use Rattle.std.proofs.Common.{◌≡◌, length, map, take}
use Rattle.std.specs.List.{AllZip}
use Rattle.jesc_names.specs.Program.{IsMethod, callables_at, joined}
use Rattle.jesc_names.proofs.method_table.method_table.Given as goal

abbrev pub invariant-loop-number : goal.invariant-loop-number
invariant-loop-number l = record {
  methods : AllZip (IsMethod l.names.classes.now l.names.order.now) (joined (map (callables_at l.names.classes.now) (take l.number-index l.names.order.now))) l.methods;
  counts : l.counts ≡ map (λ class. length (callables_at l.names.classes.now class)) (take l.number-index l.names.order.now);
}
