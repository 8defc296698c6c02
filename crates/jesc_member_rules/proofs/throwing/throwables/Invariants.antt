use Rattle.jesc_member_rules.proofs.GivenThrowables.{AreThrown}
use Rattle.jesc_member_rules.proofs.throwing.throwables.Given as goal

abbrev pub invariant-loop-class : goal.invariant-loop-class
invariant-loop-class l = AreThrown l.graph l.order l.class-index l.marks.items
