use Rattle.std.proofs.Common.{◌<◌, ◌∙◌, length, map, ap, refl, sym, subst}
use Rattle.std.specs.List.{All}
use Rattle.jesc_meanings.specs.Labels.{IsTableOf, class_label, field_label, method_label, seen}
use Rattle.jesc_meanings.specs.Layered.{KnowsMembers}
use Rattle.jesc_meanings.specs.Meanings.{field_rows, graph_of, method_rows}
use Rattle.jesc_meanings.specs.Rows.{AreConstructors}
use Rattle.jesc_meanings.proofs.Tables.{classes_arranged, methods_inside}
use Rattle.jesc_meanings.proofs.names.Names.new.Goals as goal

pub extras-requires : goal.extras-requires
extras-requires c =
    let p = c.args.program.now in
    classes_arranged p.classes p.fields p.methods p.tables_agree (c.if-not-are_few.ensures.0 refl).classes_few c.as_slice-graph.result.now (c.as_slice-graph.ensures ∙ c.in_ok-graph.ensures ∙ ap graph_of c.classes-2.ensures)
    c.as_slice-order.result.now c.in_ok-order.order c.as_slice-order.ensures c.in_ok-order.ensures.count c.in_ok-order.ensures.each

pub fields_of-requires-clause-order : goal.fields_of-requires-clause-order
fields_of-requires-clause-order c =
    let p = c.args.program.now in
    classes_arranged p.classes p.fields p.methods p.tables_agree (c.if-not-are_few.ensures.0 refl).classes_few c.as_slice-graph.result.now (c.as_slice-graph.ensures ∙ c.in_ok-graph.ensures ∙ ap graph_of c.classes-2.ensures)
    c.as_slice-order.result.now c.in_ok-order.order c.as_slice-order.ensures c.in_ok-order.ensures.count c.in_ok-order.ensures.each

pub methods_of-requires-clause-order : goal.methods_of-requires-clause-order
methods_of-requires-clause-order c =
    let p = c.args.program.now in
    classes_arranged p.classes p.fields p.methods p.tables_agree (c.if-not-are_few.ensures.0 refl).classes_few c.as_slice-graph.result.now (c.as_slice-graph.ensures ∙ c.in_ok-graph.ensures ∙ ap graph_of c.classes-2.ensures)
    c.as_slice-order.result.now c.in_ok-order.order c.as_slice-order.ensures c.in_ok-order.ensures.count c.in_ok-order.ensures.each

pub constructor_rows-requires : goal.constructor_rows-requires
constructor_rows-requires c =
    let p = c.args.program.now in
    subst (λ ms. All (All (λ m. m < length ms)) (method_rows c.classes-3.result.now)) (sym c.methods.ensures)
    (subst (λ cs. All (All (λ m. m < length p.methods)) (method_rows cs)) (sym c.classes-3.ensures) (methods_inside p.classes p.fields p.methods p.tables_agree))

pub invariant_of-result : goal.invariant_of-result
invariant_of-result c =
    let p = c.args.program.now in
    let t = c.in_ok-classes.classes in
    let f = c.in_ok-fields.fields in
    let m = c.in_ok-methods.methods in
    let rows = c.in_ok-constructors.constructors.items in
    let labels = ap (map seen) c.as_slice.ensures ∙ c.in_ok-labels.ensures ∙ ap (map class_label) c.classes.ensures in
    let graph = c.as_slice-graph.ensures ∙ c.in_ok-graph.ensures ∙ ap graph_of c.classes-2.ensures in
    record {
      known = ∣ record {
        classes_known = subst (λ ls. IsTableOf ls t.names t.rows.items) labels c.in_ok-classes.ensures;
        fields_known = subst (λ g. KnowsMembers g (map field_label p.fields) (field_rows p.classes) f.table.names f.table.rows.items f.layers.versions f.layers.of.items) graph c.in_ok-fields.ensures;
        methods_known = subst (λ g. KnowsMembers g (map method_label p.methods) (method_rows p.classes) m.table.names m.table.rows.items m.layers.versions m.layers.of.items) graph c.in_ok-methods.ensures;
        constructors_known =
            subst (λ ms. AreConstructors p.classes ms rows) c.methods.ensures (subst (λ cs. AreConstructors cs c.methods.result.now rows) c.classes-3.ensures c.in_ok-constructors.ensures);
      } ∣₁;
    }
