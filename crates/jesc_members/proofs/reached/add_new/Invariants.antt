use Rattle.jesc_members.proofs.GroupReach.{IsAdding}
use Rattle.jesc_members.proofs.reached.add_new.Given as goal

abbrev pub invariant-loop-number : goal.invariant-loop-number
invariant-loop-number l = IsAdding l.numbers l.number-index l.fn.found l.met.keys l.found
