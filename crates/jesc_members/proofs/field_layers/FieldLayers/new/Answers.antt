use Rattle.std.proofs.Common.{◌∙◌, ◌<◌, ℕ, List, length, map, ap, sym, subst, bytes_eq}
use Rattle.std.specs.List.{All}
use Rattle.std.proofs.lemmas.List.{length-map}
use Rattle.std.proofs.lemmas.List.Elements.{All-map}
use Rattle.jesc_members.specs.Keys.{AreRows, HasKeys, HasNames}
use Rattle.jesc_members.specs.Seen.{seen_field}
use Rattle.jesc_members.proofs.InheritFields.{are_items, knows_fields, seen_names, seen_owners}
use Rattle.jesc_members.proofs.field_layers.FieldLayers.new.Goals as goal

pub rows_of-requires-clause-within : goal.rows_of-requires-clause-within
rows_of-requires-clause-within c =
    let fields = c.args.fields.now in
    let n = length c.args.graph.now in
    subst (λ owners. All (λ class. class < n) owners) (sym (c.as_slice.ensures ∙ c.in_ok-owners.ensures ∙ seen_owners fields))
    (All-map (λ class. class < n) (λ f. f.class) (map seen_field fields) c.requires.owners)

pub new-requires-clause-items : goal.new-requires-clause-items
new-requires-clause-items c =
    let fields = c.args.fields.now in
    let keys = c.as_slice-keys.result.now in
    let rows = c.as_slice-2.result.now in
    let keyed = subst (λ ks. HasKeys (List ℕ) bytes_eq (map (λ f. f.tree.now.name.text) fields) ks) (sym c.as_slice-keys.ensures) c.in_ok-found.ensures.keys in
    let rowed = subst (λ rs. AreRows (length c.args.graph.now) c.as_slice.result.now rs) (sym c.as_slice-2.ensures.value) c.in_ok-rows.ensures in
    let long = ap length (c.as_slice.ensures ∙ c.in_ok-owners.ensures) ∙ length-map fields (λ f. f.number) ∙ sym (length-map fields (λ f. f.tree.now.name.text)) in
    are_items (List ℕ) bytes_eq (length c.args.graph.now) (map (λ f. f.tree.now.name.text) fields) c.as_slice.result.now keys rows long keyed rowed

pub returns : goal.returns
returns c =
    let fields = c.args.fields.now in
    let keys = c.as_slice-keys.result.now in
    let rows = c.as_slice-2.result.now in
    let keyed = subst (λ ks. HasKeys (List ℕ) bytes_eq (map (λ f. f.tree.now.name.text) fields) ks) (sym c.as_slice-keys.ensures) c.in_ok-found.ensures.keys in
    let rowed = subst (λ rs. AreRows (length c.args.graph.now) c.as_slice.result.now rs) (sym c.as_slice-2.ensures.value) c.in_ok-rows.ensures in
    knows_fields c.args.graph.now c.args.order.now c.requires.order (map seen_field fields) c.in_ok-found.found.names keys rows c.in_ok-layers.layers.versions c.in_ok-layers.layers.of.items
    (subst (λ ns. HasNames c.in_ok-found.found.names ns) (seen_names fields) c.in_ok-found.ensures.names)
    (subst (λ ns. HasKeys (List ℕ) bytes_eq ns keys) (seen_names fields) keyed)
    (subst (λ os. AreRows (length c.args.graph.now) os rows) (c.as_slice.ensures ∙ c.in_ok-owners.ensures ∙ seen_owners fields) rowed)
    c.in_ok-layers.ensures
