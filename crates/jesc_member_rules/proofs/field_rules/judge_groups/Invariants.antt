use Rattle.std.proofs.Common.{drop, map}
use Rattle.jesc_classes.specs.Sources.{seen}
use Rattle.jesc_member_rules.specs.Members.{Judges, group}
use Rattle.jesc_member_rules.proofs.JudgingWalk.{Answer}
use Rattle.jesc_member_rules.proofs.field_rules.judge_groups.Given as goal

-- what is answered for the words that are left is the answer for all
abbrev pub invariant-loop-word : goal.invariant-loop-word
invariant-loop-word l =
    let part = group l.field.number (seen l.field.class) in
    (r : Answer) → Judges l.known r (map part (drop l.word-index l.words)) → Judges l.known r (map part l.words)
