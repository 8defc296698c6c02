use Rattle.std.proofs.Common.{subst}
use Rattle.jesc_lookup.specs.LineSets.{Merges}
use Rattle.jesc_lookup.proofs.LineDescends.{adds_line, all_below, descends_more, is_read}
use Rattle.jesc_lookup.proofs.lines.add_line.Goals as goal

pub merge-requires-clause-classes : goal.merge-requires-clause-classes
merge-requires-clause-classes c =
    let a = c.args in
    let l = c.loop-end in
    all_below a.graph.now a.rows.now a.versions.now a.line.now c.climb.new.versions c.climb.new.line l.versions l.line a.class c.len-start.result l.end c.in_ok-climb.ensures l.invariant c.loop-end-test.true c.len-start.ensures
    c.as_slice.result.now c.as_slice.ensures c.requires.above.count c.index-rows-above.result c.as_slice-in-loop-end.result.now c.index-rows-above.is c.as_slice-in-loop-end.ensures c.requires.above.below c.requires.room.room

pub loop-end-preserved : goal.loop-end-preserved
loop-end-preserved c =
    let a = c.args in
    let l = c.loop-end in
    let row = is_read a.graph.now a.rows.now a.versions.now a.line.now c.climb.new.versions c.climb.new.line l.versions l.line a.class c.len-start.result l.end c.in_ok-climb.ensures l.invariant c.loop-end-test.true c.len-start.ensures
    c.as_slice.result.now c.as_slice.ensures c.requires.above.count c.index-rows-above.result c.as_slice-in-loop-end.result.now c.index-rows-above.is c.as_slice-in-loop-end.ensures in
    descends_more a.rows.now c.climb.new.versions c.climb.new.line l.versions l.line c.merge.new.versions c.merge.new.line c.len-start.result l.end l.invariant c.loop-end-test.true
    (subst (Merges l.versions l.line c.merge.new.versions c.merge.new.line) row c.in_ok-merge.ensures)

pub returns : goal.returns
returns c =
    let a = c.args in
    let l = c.loop-end in
    adds_line a.graph.now a.rows.now a.versions.now a.line.now c.climb.new.versions c.climb.new.line l.versions l.line a.class c.len-start.result l.end c.in_ok-climb.ensures l.invariant c.requires.above c.loop-end-test.false c.len-start.ensures
