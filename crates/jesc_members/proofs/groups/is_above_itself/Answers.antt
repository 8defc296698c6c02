use Rattle.std.proofs.Common.{[], ◌∙◌, true≢false, refl, sym}
use Rattle.std.proofs.lemmas.List.{get_or_default}
use Rattle.jesc_members.proofs.GroupEdges.{none_back_more, itself, not_itself}
use Rattle.jesc_members.proofs.groups.is_above_itself.Goals as goal

pub returns-then-branch : goal.returns-then-branch
returns-then-branch c =
    let graph = c.args.graph.now in
    let n = c.args.number in
    let row = c.as_slice-above-items.ensures ∙ (c.index-graph-number.is ∙ get_or_default graph n c.index-graph-number.result [] c.requires.number) in
    ((λ e. itself graph n c.as_slice-above-items.result.now c.loop-above.above-index row c.loop-above-test.true (c.in_ok-is_on_cycle.ensures.0 c.if-branch.true)), (λ a. refl))

pub loop-above-preserved : goal.loop-above-preserved
loop-above-preserved c =
    none_back_more c.args.graph.now c.args.number c.as_slice-above-items.result.now c.loop-above.above-index c.loop-above-test.true c.loop-above.invariant (λ t. true≢false (sym (c.in_ok-is_on_cycle.ensures.1 t) ∙ c.if-branch.false))

pub returns : goal.returns
returns c =
    let graph = c.args.graph.now in
    let n = c.args.number in
    let row = c.as_slice-above-items.ensures ∙ (c.index-graph-number.is ∙ get_or_default graph n c.index-graph-number.result [] c.requires.number) in
    ((λ e. absurd (true≢false (sym e))), (λ a. absurd (not_itself graph n c.as_slice-above-items.result.now c.loop-above.above-index row c.loop-above-test.false c.loop-above.invariant a)))
