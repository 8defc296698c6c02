use Rattle.jesc_engine.proofs.Conditions.{trouble_along, broken_along}
use Rattle.jesc_engine.proofs.ways.conditions.judge.Goals as goal

pub returns-clause-trouble : goal.returns-clause-trouble
returns-clause-trouble c =
    trouble_along c.args.atoms.now c.args.outcome c.args.facts.now c.args.condition.now c.judge_sum.new.facts c.in_ok-x.x c.in_ok-x.left c.in_ok-y.trouble
    c.in_ok-x.ensures.sum c.in_ok-x.ensures.answer c.in_ok-y.ensures.answer

pub returns-clause-broken : goal.returns-clause-broken
returns-clause-broken c =
    broken_along c.args.atoms.now c.args.outcome c.args.facts.now c.args.condition.now c.judge_sum.new.facts c.in_ok-x.x c.judge_sum-2.new.facts c.in_ok-y.y
    c.in_ok-broken.broken c.in_ok-x.ensures.sum c.in_ok-y.ensures.sum c.in_ok-broken.ensures.1
