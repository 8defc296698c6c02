use Rattle.jesc_member_rules.proofs.member.judge_next_represented.Goals as goal

pub returns-clause-judged : goal.returns-clause-judged
returns-clause-judged c b is = c.in_ok-judge_represented.ensures.judged b.represented is.represented
