use Rattle.std.proofs.Common.{◌≡◌, Some, List, length, ap, arith, subst}
use Rattle.std.proofs.lemmas.List.{length-map}
use Rattle.std.specs.List.{slice_get}
use Rattle.jesc_members.specs.Fields.{FieldOf, fields_of}
use Rattle.jesc_members.specs.Seen.{seen_field}
use Rattle.jesc_members.proofs.GroupLists.{all_rows, at_slot, more_rows, slot_class}
use Rattle.jesc_members.proofs.grouping.group_graph.Goals as goal

pub groups_of-requires-clause-class : goal.groups_of-requires-clause-class
groups_of-requires-clause-class c =
    let i = c.loop-field.field-index in
    let x = c.field-item.result in
    slot_class c.args.inheritance.now i (seen_field x) (subst (λ fs. slice_get fs i ≡ Some (seen_field x)) c.requires.fields (at_slot seen_field c.args.fields.now i x c.loop-field-test.true c.field-item.is))

pub loop-field-preserved : goal.loop-field-preserved
loop-field-preserved c =
    let i = c.loop-field.field-index in
    let x = c.field-item.result in
    more_rows c.args.inheritance.now i c.loop-field.graph c.push.new.self c.in_ok-groups_of.field-0 (seen_field x) c.loop-field.invariant
    (subst (λ fs. slice_get fs i ≡ Some (seen_field x)) c.requires.fields (at_slot seen_field c.args.fields.now i x c.loop-field-test.true c.field-item.is))
    c.in_ok-groups_of.ensures c.in_ok-push.ensures.ok

pub returns : goal.returns
returns c =
    let same = ap (λ (fs : List FieldOf). length fs) c.requires.fields in
    let whole : length (fields_of c.args.inheritance.now) ≡ c.loop-field.field-index = omega (arith, same, length-map c.args.fields.now seen_field, c.loop-field-test.false, c.loop-field.auto.field-index-end) in
    all_rows c.args.inheritance.now c.loop-field.field-index c.loop-field.graph c.loop-field.invariant whole
