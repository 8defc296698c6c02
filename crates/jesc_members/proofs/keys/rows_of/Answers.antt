use Rattle.jesc_members.proofs.InheritNumbers.{rows_more}
use Rattle.jesc_members.proofs.keys.rows_of.Goals as goal

pub loop-i-preserved : goal.loop-i-preserved
loop-i-preserved c =
    rows_more c.args.classes c.args.owners.now c.loop-i.i c.loop-i-test.true c.loop-i.rows.items c.index_mut.result.now c.push.new.self (c.requires.within c.loop-i.i 0 c.loop-i-test.true) c.index_mut.ensures.value c.in_ok-push.ensures.ok c.loop-i.invariant
