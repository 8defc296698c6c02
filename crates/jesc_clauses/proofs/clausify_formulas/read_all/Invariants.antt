use Rattle.std.proofs.Common.{map, take}
use Rattle.jesc_logic.specs.Claims.{shape}
use Rattle.jesc_clauses.specs.Formulas.{AreReadIn}
use Rattle.jesc_clauses.proofs.clausify_formulas.read_all.Given as goal

abbrev pub invariant-loop-f : goal.invariant-loop-f
invariant-loop-f l = AreReadIn l.terms (map shape (take l.f-index l.formulas)) l.reader
