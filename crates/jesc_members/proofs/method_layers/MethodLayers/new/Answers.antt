use Rattle.std.proofs.Common.{◌∙◌, ◌<◌, length, map, ap, sym, subst}
use Rattle.std.specs.List.{All}
use Rattle.std.proofs.lemmas.List.{length-map}
use Rattle.std.proofs.lemmas.List.Elements.{All-map}
use Rattle.jesc_members.specs.Keys.{AreRows, HasKeys, HasNames}
use Rattle.jesc_members.specs.Seen.{seen_method}
use Rattle.jesc_members.proofs.InheritFields.{are_items}
use Rattle.jesc_members.proofs.InheritKeyed.{are_keyed}
use Rattle.jesc_members.proofs.InheritMethods.{given_label, label_of, knows_methods, seen_labels, seen_texts, seen_method_owners}
use Rattle.jesc_members.specs.Counts.{AreCounted, Label, alike}
use Rattle.jesc_lookup.specs.Tallies.{marked_in}
use Rattle.jesc_members.proofs.InheritBare.{seen_bare, tells_bare}
use Rattle.jesc_members.proofs.method_layers.MethodLayers.new.Goals as goal

pub rows_of-requires-clause-within : goal.rows_of-requires-clause-within
rows_of-requires-clause-within c =
    let methods = c.args.methods.now in
    let n = length c.args.graph.now in
    subst (λ owners. All (λ class. class < n) owners) (sym (c.as_slice.ensures ∙ c.in_ok-owners.ensures ∙ seen_method_owners methods))
    (All-map (λ class. class < n) (λ f. f.class) (map seen_method methods) c.requires.owners)

pub new-requires-clause-items : goal.new-requires-clause-items
new-requires-clause-items c =
    let methods = c.args.methods.now in
    let keys = c.as_slice-keys.result.now in
    let rows = c.as_slice-2.result.now in
    let keyed = subst (λ ks. HasKeys Label alike (map given_label methods) ks) (sym c.as_slice-keys.ensures) c.in_ok-found.ensures.keys in
    let rowed = subst (λ rs. AreRows (length c.args.graph.now) c.as_slice.result.now rs) (sym c.as_slice-2.ensures.value) c.in_ok-rows.ensures in
    let long = ap length (c.as_slice.ensures ∙ c.in_ok-owners.ensures) ∙ length-map methods (λ f. f.number) ∙ sym (length-map methods given_label) in
    are_items Label alike (length c.args.graph.now) (map given_label methods) c.as_slice.result.now keys rows long keyed rowed

pub returns-clause-known : goal.returns-clause-known
returns-clause-known c =
    let methods = c.args.methods.now in
    let keys = c.as_slice-keys.result.now in
    let rows = c.as_slice-2.result.now in
    let keyed = subst (λ ks. HasKeys Label alike (map given_label methods) ks) (sym c.as_slice-keys.ensures) c.in_ok-found.ensures.keys in
    let rowed = subst (λ rs. AreRows (length c.args.graph.now) c.as_slice.result.now rs) (sym c.as_slice-2.ensures.value) c.in_ok-rows.ensures in
    let counts = c.in_ok-found.found.by_name.counts in
    let table = c.in_ok-found.found.by_name.rows.items in
    knows_methods c.args.graph.now c.args.order.now c.requires.order (map seen_method methods) c.in_ok-found.found.by_name.names table counts keys rows c.in_ok-layers.layers.versions c.in_ok-layers.layers.of.items
    (subst (λ ns. HasNames c.in_ok-found.found.by_name.names ns) (seen_texts methods) c.in_ok-found.ensures.names)
    (subst (λ n. AreCounted counts n (map label_of (map seen_method methods)) table) (sym (length-map methods seen_method)) (subst (λ ls. AreCounted counts (length methods) ls table) (seen_labels methods) c.in_ok-found.ensures.rows))
    (subst (λ ns. HasKeys Label alike ns keys) (seen_labels methods) keyed)
    (subst (λ os. AreRows (length c.args.graph.now) os rows) (c.as_slice.ensures ∙ c.in_ok-owners.ensures ∙ seen_method_owners methods) rowed)
    c.in_ok-layers.ensures

pub returns-clause-keyed : goal.returns-clause-keyed
returns-clause-keyed c =
    let methods = c.args.methods.now in
    let keys = c.in_ok-found.found.keys in
    let rows = c.in_ok-rows.rows.items in
    let counts = c.in_ok-found.found.by_name.counts in
    let table = c.in_ok-found.found.by_name.rows.items in
    are_keyed (length c.args.graph.now) (map seen_method methods) c.in_ok-found.found.by_name.names table counts keys rows
    (subst (λ ns. HasNames c.in_ok-found.found.by_name.names ns) (seen_texts methods) c.in_ok-found.ensures.names)
    (subst (λ n. AreCounted counts n (map label_of (map seen_method methods)) table) (sym (length-map methods seen_method)) (subst (λ ls. AreCounted counts (length methods) ls table) (seen_labels methods) c.in_ok-found.ensures.rows))
    (subst (λ ns. HasKeys Label alike ns keys) (seen_labels methods) c.in_ok-found.ensures.keys)
    (subst (λ os. AreRows (length c.args.graph.now) os rows) (c.as_slice.ensures ∙ c.in_ok-owners.ensures ∙ seen_method_owners methods) c.in_ok-rows.ensures)

pub returns-clause-bare : goal.returns-clause-bare
returns-clause-bare c =
    let methods = c.args.methods.now in
    let keys = c.as_slice-keys.result.now in
    let rows = c.as_slice-2.result.now in
    let keyed = subst (λ ks. HasKeys Label alike (map given_label methods) ks) (sym c.as_slice-keys.ensures) c.in_ok-found.ensures.keys in
    let rowed = subst (λ rs. AreRows (length c.args.graph.now) c.as_slice.result.now rs) (sym c.as_slice-2.ensures.value) c.in_ok-rows.ensures in
    tells_bare c.args.graph.now c.args.order.now c.requires.order (map seen_method methods) keys rows c.in_ok-layers.layers.versions c.in_ok-layers.layers.of.items
    (subst (λ ns. HasKeys Label alike ns keys) (seen_labels methods) keyed)
    (subst (λ os. AreRows (length c.args.graph.now) os rows) (c.as_slice.ensures ∙ c.in_ok-owners.ensures ∙ seen_method_owners methods) rowed)
    c.in_ok-layers.ensures c.in_ok-bare.bare
    (c.in_ok-bare.ensures ∙ ap (λ ms. map (marked_in ms) c.in_ok-layers.layers.versions) (c.as_slice-3.ensures ∙ c.in_ok-marks.ensures ∙ seen_bare methods))
