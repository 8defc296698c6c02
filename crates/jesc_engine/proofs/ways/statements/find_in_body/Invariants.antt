use Rattle.std.proofs.Common.{List, drop}
use Rattle.jesc_engine.specs.declared.answer.Finding.{Finding}
use Rattle.jesc_engine.specs.Ways.{no_outcome, body_obligations}
use Rattle.jesc_engine.specs.Walk.{IsScope, Extends}
use Rattle.jesc_engine.proofs.ways.statements.find_in_body.Given as goal

abbrev pub invariant-loop-statement : goal.invariant-loop-statement
invariant-loop-statement l =
    IsScope l.facts.fresh l.atoms.items no_outcome × IsScope l.facts.fresh l.arguments no_outcome
    × ((final : List Finding) → Extends (body_obligations l.method l.arguments l.atoms.items l.facts (drop l.statement-index l.statement-items)) l.findings final
    → Extends (body_obligations l.method l.arguments l.initial.atoms.items l.initial.facts l.statement-items) l.initial.findings final)
