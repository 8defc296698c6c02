use Rattle.std.proofs.Common.{take}
use Rattle.jesc_arithmetic.proofs.Saying.{HavePut}
use Rattle.jesc_arithmetic.proofs.facts.put_rules.Given as goal

abbrev pub invariant-loop-rule : goal.invariant-loop-rule
invariant-loop-rule l = HavePut l.initial.terms l.terms l.parts l.initial.facts l.facts (take l.rule-index l.rules)
