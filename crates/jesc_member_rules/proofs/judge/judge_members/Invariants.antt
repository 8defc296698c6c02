use Rattle.jesc_member_rules.proofs.JudgingClasses.{IsBefore}
use Rattle.jesc_member_rules.proofs.judge.judge_members.Given as goal

abbrev pub invariant-loop-i : goal.invariant-loop-i
invariant-loop-i l = IsBefore l.fn.classes l.i l.counts
