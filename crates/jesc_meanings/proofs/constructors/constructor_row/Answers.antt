use Rattle.std.proofs.Common.{length}
use Rattle.jesc_meanings.specs.Ids.{method_id}
use Rattle.jesc_meanings.proofs.Constructing.{id_small, method_taken}
use Rattle.jesc_meanings.proofs.constructors.constructor_row.Goals as goal

pub add-requires : goal.add-requires
add-requires c = id_small c.args.ids.now (length c.args.methods.now) c.loop-id.id-index (method_id 0) c.loop-id-test.true c.requires

pub loop-id-preserved : goal.loop-id-preserved
loop-id-preserved c =
    method_taken c.args.methods.now c.args.ids.now c.loop-id.id-index (method_id 0) c.loop-id-test.true c.loop-id.row c.add.new.row c.loop-id.invariant c.in_ok-add.ensures
