use Rattle.std.proofs.Common.{◌∷◌, [], ◌++◌, sym, subst}
use Rattle.jesc_engine.specs.Judged.{duty_of, AreJudgements}
use Rattle.jesc_engine.proofs.Judgements.{judged_more}
use Rattle.jesc_engine.proofs.judge.judge_next.Goals as goal

pub returns : goal.returns
returns c = λ before judged.
    let duty = duty_of c.args.class.now c.args.method.now in
    subst (AreJudgements (before ++ duty ∷ [])) (sym c.in_ok-push.ensures.ok)
    (judged_more before c.args.judgements.now duty c.in_ok-judge.field-0 judged c.in_ok-judge.ensures.duty c.in_ok-judge.ensures.findings)
