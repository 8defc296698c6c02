use Rattle.std.proofs.Common.{◌<◌, ◌∙◌, [], length, sym, subst}
use Rattle.std.proofs.lemmas.List.{get_or_default}
use Rattle.jesc_classes.specs.Order.{supers}
use Rattle.jesc_lookup.specs.laws.Layers.{above_there, class_added}
use Rattle.jesc_lookup.proofs.layers.Layers.add.Goals as goal

pub add_extra-requires-clause-version : goal.add_extra-requires-clause-version
add_extra-requires-clause-version c =
    subst (λ v. v < length c.args.self.now.versions) (sym c.first_above-above.ensures) (above_there (supers c.args.graph.now c.args.class) c.args.self.now.of.items (length c.args.self.now.versions) c.requires.there)

pub returns : goal.returns
returns c =
    let class = c.args.class in
    let extras = c.args.extras.now in
    let rows = c.args.rows.now in
    let in_extras = subst (λ n. class < n) (sym c.requires.extras) c.requires.class in
    let in_rows = subst (λ n. class < n) (sym c.requires.items.count) c.requires.class in
    class_added c.args.graph.now extras c.args.keys.now rows class c.args.self.now.versions c.args.self.now.of.items c.first_above-above.result c.as_slice.result.now c.as_slice-2.result.now c.add_extra.new.versions c.in_ok-above.above
    c.put_own.new.versions c.in_ok-own.own c.first_above-above.ensures (c.as_slice.ensures ∙ (c.index-extras-class.is ∙ get_or_default extras class c.index-extras-class.result [] in_extras))
    (c.as_slice-2.ensures ∙ (c.index-rows-class.is ∙ get_or_default rows class c.index-rows-class.result [] in_rows)) c.in_ok-above.ensures c.in_ok-own.ensures
