use Rattle.std.proofs.Common.{take}
use Rattle.jesc_clauses.proofs.Stepping.{HaveRead}
use Rattle.jesc_clauses.proofs.reader.Reader.+read.Given as goal

abbrev pub decreases-read : goal.decreases-read
decreases-read l = l.id.0

abbrev pub invariant-loop-arg : goal.invariant-loop-arg
invariant-loop-arg l = HaveRead l.terms l.initial.self.sums l.self.sums l.initial.self.opaques l.self.opaques (take l.arg-index l.args)
