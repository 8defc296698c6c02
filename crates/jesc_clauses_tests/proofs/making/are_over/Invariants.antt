use Rattle.std.proofs.Common.{take}
use Rattle.std.specs.Prelude.{All}
use Rattle.jesc_logic.specs.Claims.{IsOver}
use Rattle.jesc_clauses_tests.proofs.making.are_over.Given as goal

abbrev pub invariant-loop-f : goal.invariant-loop-f
invariant-loop-f l = All (IsOver l.terms) (take l.f-index l.formulas)
