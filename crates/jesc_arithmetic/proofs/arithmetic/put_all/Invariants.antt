use Rattle.std.proofs.Common.{take}
use Rattle.jesc_arithmetic.proofs.Saying.{HavePutAll}
use Rattle.jesc_arithmetic.proofs.arithmetic.put_all.Given as goal

abbrev pub invariant-loop-operation : goal.invariant-loop-operation
invariant-loop-operation l = HavePutAll l.initial.terms l.terms l.facts (take l.operation-index l.operations)
