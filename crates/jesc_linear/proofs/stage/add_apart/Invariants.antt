use Rattle.std.proofs.Common.{◌≡◌, ◌++◌, take, filter, not}
use Rattle.jesc_linear.specs.Elimination.{has_term}
use Rattle.jesc_linear.specs.Tables.{entry_of}
use Rattle.jesc_linear.proofs.stage.add_apart.Given as goal

abbrev pub invariant-loop-slot : goal.invariant-loop-slot
invariant-loop-slot l = record {
  held : l.held.items ≡ l.fn.held.items ++ filter (λ slot. has_term l.term (entry_of l.log slot)) (take l.slot-index l.slots);
  rest : l.rest.items ≡ l.fn.rest.items ++ filter (λ slot. not (has_term l.term (entry_of l.log slot))) (take l.slot-index l.slots);
}
