use Rattle.std.proofs.Common.{arith}
use Rattle.jesc_classes.specs.laws.Ids.{are_ids}
use Rattle.jesc_names.proofs.places.places_of.Goals as goal

pub returns-clause-ids : goal.returns-clause-ids
returns-clause-ids c =
    let at = c.loop-id.invariant in
    are_ids c.args.count c.args.order.now c.loop-id.ids.items at.count c.requires.whole (λ k l. at.filled k (omega (arith, l, c.loop-id-test.false)))
