use Rattle.std.proofs.Common.{take}
use Rattle.jesc_engine.specs.Judged.{all_duties, AreJudgements}
use Rattle.jesc_engine.proofs.judge.judge_classes.Given as goal

abbrev pub invariant-loop-class : goal.invariant-loop-class
invariant-loop-class l = AreJudgements (all_duties (take l.class-index l.classes)) l.judgements
