use Rattle.std.proofs.Common.{get_or, refl}
use Rattle.jesc_names.proofs.TablesRising.{id_more, id_end}
use Rattle.jesc_names.proofs.members.id_set.Goals as goal

pub loop-number-preserved : goal.loop-number-preserved
loop-number-preserved c =
    let numbers = c.args.numbers.now in
    let i = c.loop-number.number-index in
    id_more c.args.ids.now numbers i c.loop-number.set.keys c.add.new.set.keys (get_or c.args.ids.now (get_or numbers i 0) 0) c.loop-number-test.true refl c.in_ok-add.ensures c.loop-number.invariant

pub returns : goal.returns
returns c = id_end c.args.ids.now c.args.numbers.now c.loop-number.number-index c.loop-number.set.keys c.loop-number-test.false c.loop-number.invariant
