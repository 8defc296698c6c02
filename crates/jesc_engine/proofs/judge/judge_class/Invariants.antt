use Rattle.std.proofs.Common.{◌∷◌, ◌++◌, List, map, take}
use Rattle.jesc_first.specs.Accepted.{constructor_of}
use Rattle.jesc_engine.specs.Judged.{Duty, duty_of, AreJudgements}
use Rattle.jesc_engine.proofs.judge.judge_class.Given as goal

abbrev pub invariant-loop-method : goal.invariant-loop-method
invariant-loop-method l =
    (before : List Duty) → AreJudgements before l.fn.judgements
    → AreJudgements (before ++ map (duty_of l.class.name) (constructor_of l.class ∷ take l.method-index l.method-items)) l.judgements
