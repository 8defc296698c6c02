use Rattle.std.proofs.Common.{map, take}
use Rattle.std.specs.Prelude.{All}
use Rattle.jesc_logic.specs.Terms.{Keeps}
use Rattle.jesc_logic.specs.Claims.{shape}
use Rattle.jesc_clauses.specs.Builders.{AreNarrowAt, IsAsserted}
use Rattle.jesc_clauses.proofs.builder.Builder.assert_all.Given as goal

abbrev pub invariant-loop-f : goal.invariant-loop-f
invariant-loop-f l = record {
  keeps : Keeps l.initial.terms l.terms;
  asserted : IsAsserted l.sums l.terms l.initial.self l.self (map shape (take l.f-index l.formulas));
  narrow : All (AreNarrowAt l.sums) (map shape (take l.f-index l.formulas));
}
