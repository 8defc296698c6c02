use Rattle.jesc_names.proofs.TablesPlaces.{AreFilled}
use Rattle.jesc_names.proofs.places.places_of.Given as goal

abbrev pub invariant-loop-id : goal.invariant-loop-id
invariant-loop-id l = AreFilled l.order l.ids.items l.count l.id
