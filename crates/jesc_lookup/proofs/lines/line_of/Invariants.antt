use Rattle.jesc_lookup.proofs.LineJoins.{Joins}
use Rattle.jesc_lookup.proofs.lines.line_of.Given as goal

abbrev pub invariant-loop-at : goal.invariant-loop-at
invariant-loop-at l = Joins l.graph l.fn.versions l.versions l.line l.class l.at
