use Rattle.std.proofs.Common.{[]}
use Rattle.jesc_classes.specs.Sources.{seen}
use Rattle.jesc_member_rules.specs.Members.{met}
use Rattle.jesc_member_rules.proofs.JudgingMembers.{IsAt}
use Rattle.jesc_member_rules.proofs.judge.judge_all.Given as goal

abbrev pub invariant-loop-member : goal.invariant-loop-member
invariant-loop-member l = IsAt l.known l.number (seen l.class) (met l.fn.before.fields l.fn.before.methods [] []) l.members l.member-index l.met
