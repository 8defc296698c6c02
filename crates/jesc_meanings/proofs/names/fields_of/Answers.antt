use Rattle.std.proofs.Common.{◌≡◌, ◌∙◌, map, ap, sym, subst}
use Rattle.std.proofs.Math.Logic.{∥∥₁_elim}
use Rattle.std.proofs.Props.{props}
use Rattle.jesc_meanings.specs.Labels.{field_label, seen}
use Rattle.jesc_meanings.specs.Layered.{AreRows}
use Rattle.jesc_meanings.specs.Meanings.{field_rows, graph_of}
use Rattle.jesc_meanings.proofs.Tables.{are_field_rows}
use Rattle.jesc_meanings.proofs.names.fields_of.Goals as goal

pub new-requires-clause-rows : goal.new-requires-clause-rows
new-requires-clause-rows c =
    let p = c.args.program.now in
    let are : AreRows (graph_of p.classes) (map field_label p.fields) (field_rows p.classes) = ∥∥₁_elim p.tables_agree (hlevel props) (are_field_rows p.classes p.fields p.methods) in
    let labels : map seen c.as_slice.result.now ≡ map field_label p.fields = ap (map seen) c.as_slice.ensures ∙ c.in_ok-labels.ensures ∙ ap (map field_label) c.fields.ensures in
    let rows : c.as_slice-2.result.now ≡ field_rows p.classes = c.as_slice-2.ensures ∙ c.in_ok-rows.ensures ∙ ap field_rows c.classes.ensures in
    subst (λ rs. AreRows c.args.graph.now (map seen c.as_slice.result.now) rs) (sym rows)
    (subst (λ ls. AreRows c.args.graph.now ls (field_rows p.classes)) (sym labels) (subst (λ g. AreRows g (map field_label p.fields) (field_rows p.classes)) (sym c.requires.graph) are))
