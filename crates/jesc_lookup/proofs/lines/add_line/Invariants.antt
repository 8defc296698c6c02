use Rattle.jesc_lookup.proofs.LineDescends.{Descending}
use Rattle.jesc_lookup.proofs.lines.add_line.Given as goal

abbrev pub invariant-loop-end : goal.invariant-loop-end
invariant-loop-end l = Descending l.rows l.initial.versions l.initial.line l.versions l.line l.start l.end

abbrev pub decreases-loop-end : goal.decreases-loop-end
decreases-loop-end l = l.end
