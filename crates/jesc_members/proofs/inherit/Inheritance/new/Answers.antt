use Rattle.std.proofs.Common.{◌≡◌, ◌∙◌, ◌<◌, length, map, ap, sym, subst, arith}
use Rattle.std.specs.List.{All}
use Rattle.std.proofs.lemmas.List.{length-map}
use Rattle.jesc_members.specs.Fields.{fields_of}
use Rattle.jesc_lookup.specs.Layers.{AreItems}
use Rattle.jesc_members.specs.Methods.{methods_of}
use Rattle.jesc_members.specs.Seen.{seen_field, seen_method}
use Rattle.jesc_members.specs.SummaryLayers.{AreSummaries}
use Rattle.jesc_members.proofs.InheritFields.{field_owners_small}
use Rattle.jesc_members.proofs.InheritMethods.{label_of, method_owners_small}
use Rattle.jesc_members.proofs.InheritOverrides.{inherited}
use Rattle.jesc_members.proofs.inherit.Inheritance.new.Goals as goal

pub new-requires-clause-owners : goal.new-requires-clause-owners
new-requires-clause-owners c =
    subst (λ fs. All (λ f. f.class < length c.args.graph.now) fs) (sym c.requires.fields) (subst (λ g. All (λ f. f.class < length g) (fields_of c.args.classes.now)) (sym c.requires.graph) (field_owners_small c.args.classes.now))

pub new-requires-2-clause-owners : goal.new-requires-2-clause-owners
new-requires-2-clause-owners c =
    subst (λ ms. All (λ m. m.class < length c.args.graph.now) ms) (sym c.requires.methods) (subst (λ g. All (λ m. m.class < length g) (methods_of c.args.classes.now)) (sym c.requires.graph) (method_owners_small c.args.classes.now))

pub new-requires-3-clause-few : goal.new-requires-3-clause-few
new-requires-3-clause-few c =
    let methods = c.args.methods.now in
    let long : length c.as_slice-keys.result.now ≡ length (methods_of c.args.classes.now) =
    ap length c.as_slice-keys.ensures ∙ c.in_ok-layers.ensures.keyed.keyed.count ∙ length-map (map seen_method methods) label_of ∙ ap length c.requires.methods in
    omega (arith, long, c.requires.few.methods)

pub new-requires-3-clause-count : goal.new-requires-3-clause-count
new-requires-3-clause-count c =
    let methods = c.args.methods.now in
    ap length c.as_slice-keys.ensures ∙ c.in_ok-layers.ensures.keyed.keyed.count ∙ length-map (map seen_method methods) label_of ∙ length-map methods seen_method

pub new-requires-3-clause-items : goal.new-requires-3-clause-items
new-requires-3-clause-items c =
    let n = length c.args.graph.now in
    subst (λ ks. AreItems n ks c.as_slice-rows.result.now) (sym c.as_slice-keys.ensures) (subst (λ rs. AreItems n c.in_ok-layers.layers.key_of rs) (sym c.as_slice-rows.ensures.value) c.in_ok-layers.ensures.keyed.items)

pub invariant_of-result : goal.invariant_of-result
invariant_of-result c =
    let methods = c.args.methods.now in
    let graph = c.args.graph.now in
    let layers = c.in_ok-layers.layers in
    let summaries = c.in_ok-summaries.summaries in
    inherited c.args.classes.now graph c.args.order.now c.in_ok-extras.extras (map seen_field c.args.fields.now) c.in_ok-fields.fields layers summaries methods
    c.requires.graph c.requires.fields c.requires.methods c.requires.order c.in_ok-extras.ensures c.in_ok-fields.ensures c.in_ok-layers.ensures.known c.in_ok-layers.ensures.keyed
    (subst (λ rs. AreSummaries graph (map seen_method methods) layers.key_of rs summaries.versions summaries.summaries summaries.above.items) c.as_slice-rows.ensures.value
    (subst (λ ks. AreSummaries graph (map seen_method methods) ks c.as_slice-rows.result.now summaries.versions summaries.summaries summaries.above.items) c.as_slice-keys.ensures c.in_ok-summaries.ensures)) c.in_ok-layers.ensures.bare
