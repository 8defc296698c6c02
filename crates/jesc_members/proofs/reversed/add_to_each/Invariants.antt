use Rattle.jesc_members.proofs.GroupEdges.{IsAddingTo}
use Rattle.jesc_members.proofs.reversed.add_to_each.Given as goal

abbrev pub invariant-loop-place : goal.invariant-loop-place
invariant-loop-place l = IsAddingTo l.places l.place-index l.item l.fn.rows.items l.rows.items
