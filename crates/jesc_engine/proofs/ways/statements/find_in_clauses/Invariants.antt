use Rattle.std.proofs.Common.{List, drop}
use Rattle.jesc_engine.specs.declared.answer.Finding.{Finding}
use Rattle.jesc_engine.specs.Ways.{atom_in, clause_obligations}
use Rattle.jesc_engine.specs.Walk.{IsScope, Extends}
use Rattle.jesc_engine.proofs.ways.statements.find_in_clauses.Given as goal

abbrev pub invariant-loop-clause : goal.invariant-loop-clause
invariant-loop-clause l =
    IsScope l.facts.fresh l.arguments l.outcome
    × ((final : List Finding) → Extends (clause_obligations (atom_in l.arguments l.outcome) l.facts l.exit (drop l.clause-index l.clause-items)) l.findings final
    → Extends (clause_obligations (atom_in l.arguments l.outcome) l.initial.facts l.exit l.clause-items) l.initial.findings final)
