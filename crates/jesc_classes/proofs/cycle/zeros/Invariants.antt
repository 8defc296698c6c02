use Rattle.std.proofs.Common.{◌≡◌, replicate}
use Rattle.jesc_classes.proofs.cycle.zeros.Given as goal

abbrev pub invariant-loop : goal.invariant-loop
invariant-loop l = l.list ≡ replicate l.counter 0
