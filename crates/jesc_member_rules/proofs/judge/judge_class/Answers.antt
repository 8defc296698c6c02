use Rattle.std.proofs.Common.{◌∷◌, []}
use Rattle.jesc_classes.specs.Sources.{seen}
use Rattle.jesc_member_rules.specs.Members.{inheritance, members_from, met}
use Rattle.jesc_member_rules.proofs.JudgingWalk.{goes_on, stops}
use Rattle.jesc_member_rules.proofs.judge.judge_class.Goals as goal

pub returns-in_err-judge_inheritance-clause-judged : goal.returns-in_err-judge_inheritance-clause-judged
returns-in_err-judge_inheritance-clause-judged c =
    let s = seen c.args.class.now in
    stops c.args.known.now (inheritance c.args.number s ∷ []) (members_from c.args.number s (met c.args.before.fields c.args.before.methods [] []) s.tree.members) _ c.in_err-judge_inheritance.field-0.0 c.from_residual.ensures.1 c.in_err-judge_inheritance.ensures

pub returns-clause-judged : goal.returns-clause-judged
returns-clause-judged c =
    let s = seen c.args.class.now in
    goes_on c.args.known.now (inheritance c.args.number s ∷ []) (members_from c.args.number s (met c.args.before.fields c.args.before.methods [] []) s.tree.members) _ c.in_ok-judge_inheritance.ensures c.judge_all.ensures.judged
