use Rattle.std.proofs.Common.{[], ◌∙◌, refl}
use Rattle.std.proofs.lemmas.List.{get_or_default}
use Rattle.jesc_members.proofs.GroupEdges.{turning_more, all_turned}
use Rattle.jesc_members.proofs.reversed.reversed.Goals as goal

pub loop-number-preserved : goal.loop-number-preserved
loop-number-preserved c =
    let graph = c.args.graph.now in
    let i = c.loop-number.number in
    let row = c.as_slice.ensures ∙ (c.index-graph-number.is ∙ get_or_default graph i c.index-graph-number.result [] c.loop-number-test.true) in
    turning_more graph i c.loop-number.rows.items c.add_to_each.new.rows.items c.as_slice.result.now i c.loop-number.invariant row refl c.in_ok-add_to_each.ensures.count c.in_ok-add_to_each.ensures.each

pub returns : goal.returns
returns c = all_turned c.args.graph.now c.loop-number.number c.loop-number.rows.items c.loop-number.invariant c.loop-number-test.false
