use Rattle.std.proofs.Common.{List, drop}
use Rattle.jesc_engine.specs.declared.answer.Finding.{Finding}
use Rattle.jesc_engine.specs.Ways.{atom_in, no_outcome, overflows_along}
use Rattle.jesc_engine.specs.Walk.{IsSumming, Extends}
use Rattle.jesc_engine.proofs.ways.sums.find_in_sum.Given as goal

abbrev pub invariant-loop-operation : goal.invariant-loop-operation
invariant-loop-operation l =
    IsSumming l.atoms no_outcome l.initial.facts l.initial.x l.operation-items l.facts l.x (drop l.operation-index l.operation-items)
    × ((final : List Finding) → Extends (overflows_along (atom_in l.atoms no_outcome) l.facts l.x (drop l.operation-index l.operation-items)) l.findings final
    → Extends (overflows_along (atom_in l.atoms no_outcome) l.initial.facts l.initial.x l.operation-items) l.initial.findings final)
