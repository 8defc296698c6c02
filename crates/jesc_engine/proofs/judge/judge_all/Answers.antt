use Rattle.std.proofs.Common.{refl, subst, arith}
use Rattle.jesc_engine.specs.Judged.{all_duties, AreJudgements}
use Rattle.jesc_engine.proofs.Judgements.{as_many}
use Rattle.jesc_engine.proofs.ClassLists.{judged_next}
use Rattle.jesc_engine.proofs.judge.judge_all.Goals as goal

pub invariant_of-push : goal.invariant_of-push
invariant_of-push c =
    let file = c.file-item.result in
    let judged = subst (λ classes. AreJudgements (all_duties classes) c.in_ok-judgements.judgements) c.as_slice.ensures c.in_ok-judgements.ensures in
    record { few = omega (arith, as_many (all_duties file.classes) c.in_ok-judgements.judgements judged, file.few) }

pub loop-file-preserved : goal.loop-file-preserved
loop-file-preserved c =
    let judged = subst (λ classes. AreJudgements (all_duties classes) c.in_ok-judgements.judgements) c.as_slice.ensures c.in_ok-judgements.ensures in
    judged_next c.args.files.now c.loop-file.file-index c.file-item.result c.loop-file.judged c.push.new.self _
    c.loop-file-test.true c.file-item.is c.loop-file.invariant refl judged c.in_ok-push.ensures.ok
