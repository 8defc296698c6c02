use Rattle.std.proofs.Common.{◌≡◌, ◌<◌, ◌∙◌, [], map, ap, sym, get_or, length, arith}
use Rattle.std.proofs.lemmas.List.{get_or-map, length-map}
use Rattle.jesc_members.proofs.InheritNumbers.{names_more}
use Rattle.jesc_members.proofs.keys.field_keys.Goals as goal

pub loop-i-preserved : goal.loop-i-preserved
loop-i-preserved c =
    let fields = c.args.fields.now in
    let i = c.loop-i.i in
    let names = map (λ f. f.tree.now.name.text) fields in
    let inside : i < length names = omega (arith, c.loop-i-test.true, length-map fields (λ f. f.tree.now.name.text)) in
    let is : c.as_slice.result.now ≡ get_or names i [] = c.as_slice.ensures ∙ ap (λ f. f.tree.now.name.text) c.index-fields-i.is ∙ sym (get_or-map (λ f. f.tree.now.name.text) fields i c.index-fields-i.result [] c.loop-i-test.true) in
    names_more names i inside c.loop-i.names c.take_up.new.names c.as_slice.result.now c.in_ok-key.key c.loop-i.keys c.push.new.self is c.in_ok-key.ensures c.in_ok-push.ensures.ok c.loop-i.invariant.0 c.loop-i.invariant.1
