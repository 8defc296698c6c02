use Rattle.std.proofs.Common.{[], List, drop, take}
use Rattle.jesc_classes.specs.Headings.{Source}
use Rattle.jesc_classes.specs.Sources.{seen}
use Rattle.jesc_member_rules.specs.Judging.{seen_bearer}
use Rattle.jesc_member_rules.specs.Members.{Judges, modifiers_from}
use Rattle.jesc_member_rules.proofs.JudgingWalk.{Answer}
use Rattle.jesc_member_rules.proofs.modifiers.judge_modifiers.Given as goal

-- what is answered for the modifiers that are left is the answer for all
abbrev pub invariant-loop-i : goal.invariant-loop-i
invariant-loop-i l = (given : List Source) (r : Answer) → Judges given r (modifiers_from (seen l.class) (seen_bearer l.on) (take l.i l.words) (drop l.i l.words)) → Judges given r (modifiers_from (seen l.class) (seen_bearer l.on) [] l.words)
