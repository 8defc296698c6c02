use Rattle.std.proofs.Common.{◌<◌, ◌++◌, ◌∷◌, [], ◌∙◌, ap, arith, refl, get_or, length}
use Rattle.std.proofs.lemmas.List.{get_or_default}
use Rattle.std.proofs.lemmas.List.Elements.{All-get_or}
use Rattle.jesc_members.proofs.GroupEdges.{adding_to_more, all_added}
use Rattle.jesc_members.proofs.reversed.add_to_each.Goals as goal

pub loop-place-preserved : goal.loop-place-preserved
loop-place-preserved c =
    let places = c.args.places.now in
    let i = c.loop-place.place-index in
    let p = get_or places i 0 in
    let old = c.args.rows.now.items in
    let rows = c.loop-place.rows.items in
    let below = All-get_or (λ q. q < length old) places i 0 c.loop-place-test.true c.requires in
    let lp : p < length rows = omega (arith, below, c.loop-place.invariant.count) in
    let row = c.in_ok-push.ensures.ok ∙ ap (λ ys. ys ++ c.args.item ∷ []) (c.index_mut.ensures.value ∙ get_or_default rows p c.index_mut.result.now [] lp) in
    adding_to_more places i c.args.item p old rows _ c.push.new.self c.loop-place.invariant c.loop-place-test.true refl lp row refl

pub returns-clause-each : goal.returns-clause-each
returns-clause-each c = all_added c.args.places.now c.loop-place.place-index c.args.item c.args.rows.now.items c.loop-place.rows.items c.loop-place.invariant c.loop-place-test.false
