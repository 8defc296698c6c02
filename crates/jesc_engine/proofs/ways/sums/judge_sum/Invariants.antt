use Rattle.std.proofs.Common.{drop}
use Rattle.jesc_engine.specs.declared.answer.Answer.{Answer}
use Rattle.jesc_engine.specs.Ways.{atom_in, ways_along, concat}
use Rattle.jesc_engine.specs.Walk.{IsSumming, Continues}
use Rattle.jesc_engine.proofs.ways.sums.judge_sum.Given as goal

abbrev pub invariant-loop-operation : goal.invariant-loop-operation
invariant-loop-operation l =
    IsSumming l.atoms l.outcome l.initial.facts l.initial.x l.operation-items l.facts l.x (drop l.operation-index l.operation-items)
    × ((final : Answer) → Continues l.answer (concat (ways_along (atom_in l.atoms l.outcome) l.facts l.x (drop l.operation-index l.operation-items))) final
    → Continues l.initial.answer (concat (ways_along (atom_in l.atoms l.outcome) l.initial.facts l.initial.x l.operation-items)) final)
