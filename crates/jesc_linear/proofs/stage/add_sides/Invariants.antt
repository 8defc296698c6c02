use Rattle.std.proofs.Common.{◌≡◌, ◌++◌, take, filter}
use Rattle.jesc_linear.specs.Elimination.{is_upper, is_lower}
use Rattle.jesc_linear.specs.Tables.{entry_of}
use Rattle.jesc_linear.proofs.stage.add_sides.Given as goal

abbrev pub invariant-loop-slot : goal.invariant-loop-slot
invariant-loop-slot l = record {
  uppers : l.uppers ≡ l.fn.uppers ++ filter (λ slot. is_upper l.term (entry_of l.log slot)) (take l.slot-index l.slots);
  lowers : l.lowers ≡ l.fn.lowers ++ filter (λ slot. is_lower l.term (entry_of l.log slot)) (take l.slot-index l.slots);
}
