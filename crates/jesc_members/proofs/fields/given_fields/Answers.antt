use Rattle.std.proofs.Common.{◌++◌, ◌∙◌, ap, map}
use Rattle.jesc_classes.specs.Sources.{seen}
use Rattle.jesc_members.specs.Fields.{fields_in}
use Rattle.jesc_members.specs.Seen.{seen_field}
use Rattle.jesc_members.proofs.GivenFields.{more_classes}
use Rattle.jesc_members.proofs.fields.given_fields.Goals as goal

pub loop-place-preserved : goal.loop-place-preserved
loop-place-preserved c =
    let x = c.class-item.result in
    let old = map seen_field c.loop-place.fields in
    more_classes c.list-class-items.result.now c.loop-place.place x c.loop-place-test.true c.class-item.is old (map seen_field c.add_fields.new.fields) c.loop-place.invariant
    (c.in_ok-add_fields.ensures ∙ ap (λ n. old ++ fields_in n (seen x) x.tree.now.members) c.in_ok-class_number.ensures)
