use Rattle.jesc_members.proofs.InheritNumbers.{empty_more}
use Rattle.jesc_members.proofs.keys.empty_rows.Goals as goal

pub loop-row-preserved : goal.loop-row-preserved
loop-row-preserved c = empty_more c.loop-row._row c.loop-row.rows.items c.push.new.items.items c.new.result c.new.ensures c.in_ok-push.ensures c.loop-row.invariant
