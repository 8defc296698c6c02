use Rattle.jesc_accept.proofs.OneJudgement.{yes_or_no, one_line}
use Rattle.jesc_accept.proofs.law.answers_exclude.Goals as goal

pub returns-clause-yes_or_no : goal.returns-clause-yes_or_no
returns-clause-yes_or_no c = yes_or_no

pub returns-clause-one_line : goal.returns-clause-one_line
returns-clause-one_line c = one_line
