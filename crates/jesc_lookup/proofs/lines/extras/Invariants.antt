use Rattle.jesc_lookup.proofs.LineWalks.{Walks}
use Rattle.jesc_lookup.proofs.lines.extras.Given as goal

abbrev pub invariant-loop-class : goal.invariant-loop-class
invariant-loop-class l = Walks l.graph l.order l.class-index l.versions l.held.items l.rows.items
