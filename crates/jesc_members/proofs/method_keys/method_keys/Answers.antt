use Rattle.std.proofs.Common.{◌≡◌, ◌∷◌, ◌∙◌, ◌<◌, ◌≤◌, List, [], get_or, map, take, length, ap, sym, subst, arith, refl}
use Rattle.std.proofs.lemmas.List.{get_or-map, length-map, take_all}
use Rattle.jesc_members.specs.Counts.{AreCounted, Label, alike}
use Rattle.jesc_members.specs.Keys.{HasKeys, HasNames}
use Rattle.jesc_members.specs.declared.methods.GivenMethod.{GivenMethod}
use Rattle.jesc_members.proofs.InheritCounted.{method_more, name_small, no_names, none_counted}
use Rattle.jesc_members.proofs.InheritNumbers.{no_keys}
use Rattle.jesc_members.proofs.method_keys.method_keys.Goals as goal

abbrev label : GivenMethod → Label
label m = (m.tree.now.name.text, length m.tree.now.params)

pub loop-i-init : goal.loop-i-init
loop-i-init c = (
  no_names c.new-names.result c.new-names.ensures,
  none_counted c.as_slice-each_count.result.now (length c.args.methods.now) c.in_ok-rows.rows.items c.in_ok-rows.ensures,
  subst (λ ks. HasKeys Label alike [] ks) (sym c.new-keys.ensures) (no_keys Label alike),
)

pub take_count-requires-clause-name : goal.take_count-requires-clause-name
take_count-requires-clause-name c =
    let methods = c.args.methods.now in
    let long = length-map methods label in
    name_small (map label methods) c.loop-i.i (omega (arith, c.loop-i-test.true, long)) c.as_slice-each_count.result.now c.loop-i.rows.items c.loop-i.names c.take_up.new.names c.as_slice.result.now c.in_ok-name.name c.in_ok-name.ensures c.loop-i.invariant.0
    (subst (λ n. AreCounted c.as_slice-each_count.result.now n (take c.loop-i.i (map label methods)) c.loop-i.rows.items) (sym long) c.loop-i.invariant.1)

pub take_count-requires-clause-small : goal.take_count-requires-clause-small
take_count-requires-clause-small c = c.loop-i.invariant.1.small

pub loop-i-preserved : goal.loop-i-preserved
loop-i-preserved c =
    let methods = c.args.methods.now in
    let i = c.loop-i.i in
    let inside : i < length (map label methods) = omega (arith, c.loop-i-test.true, length-map methods label) in
    let is : get_or (map label methods) i ([], 0) ≡ label (get_or methods i c.index-methods-i.result) = get_or-map label methods i c.index-methods-i.result ([], 0) c.loop-i-test.true in
    let text_is : c.as_slice.result.now ≡ (get_or (map label methods) i ([], 0)).0 = c.as_slice.ensures ∙ ap (λ m. m.tree.now.name.text) c.index-methods-i.is ∙ ap (λ (l : Label). l.0) (sym is) in
    let count_is : get_or c.as_slice-each_count.result.now i 0 ≡ (get_or (map label methods) i ([], 0)).1 =
    ap (λ xs. get_or xs i 0) (c.as_slice-each_count.ensures ∙ c.in_ok-counts.ensures) ∙ get_or-map (λ m. length m.tree.now.params) methods i c.index-methods-i.result 0 c.loop-i-test.true ∙ ap (λ (l : Label). l.1) (sym is) in
    method_more (map label methods) i inside c.as_slice-each_count.result.now (length methods) c.loop-i.names c.take_up.new.names c.as_slice.result.now c.loop-i.rows.items c.take_count.new.rows.items c.in_ok-name.name c.in_ok-key.key c.loop-i.keys
    c.push.new.self count_is text_is c.in_ok-name.ensures c.in_ok-key.ensures c.in_ok-push.ensures.ok c.loop-i.invariant.0 c.loop-i.invariant.1 c.loop-i.invariant.2

texts : (methods : List GivenMethod) → map (λ (l : Label). l.0) (map label methods) ≡ map (λ m. m.tree.now.name.text) methods
texts [] = refl
texts (m ∷ methods) = ap (λ r. m.tree.now.name.text ∷ r) (texts methods)

pub returns-clause-names : goal.returns-clause-names
returns-clause-names c =
    let methods = c.args.methods.now in
    let end : length (map label methods) ≤ c.loop-i.i = omega (arith, c.loop-i-test.false, length-map methods label) in
    subst (λ ns. HasNames c.loop-i.names ns) (ap (map (λ (l : Label). l.0)) (take_all c.loop-i.i (map label methods) end) ∙ texts methods) c.loop-i.invariant.0
