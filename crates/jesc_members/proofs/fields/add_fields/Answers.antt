use Rattle.std.proofs.Common.{◌∙◌, map}
use Rattle.jesc_classes.specs.Sources.{seen}
use Rattle.jesc_members.specs.Fields.{field_in}
use Rattle.jesc_members.specs.Seen.{seen_field}
use Rattle.jesc_members.proofs.GivenFields.{more_fields, appended, kept}
use Rattle.jesc_members.proofs.fields.add_fields.Goals as goal
use Rattle.jesc_members.proofs.fields.add_fields.Goals.{in-Some+in_ok-push, in_default}

pub loop-member-preserved : goal.loop-member-preserved
loop-member-preserved c =
    let s = seen c.args.class.now in
    let old = c.loop-member.fields in
    let more = field_in c.args.number s c.member-item.result.node in
    more_fields c.args.number s c.as_slice-member-items.result.now c.loop-member.member-index c.member-item.result c.loop-member-test.true c.member-item.is
    (map seen_field c.args.fields.now) (map seen_field old) (map seen_field c.match-field_of.fields) c.loop-member.invariant
    (elim c.match-field_of.branch [
      | in-Some+in_ok-push w ↦ appended seen_field old c.field_of.result w.in-Some.field more w.in-Some.is c.field_of.ensures c.match-field_of.fields (w.fields-is ∙ w.in_ok-push.ensures.ok)
      | in_default w ↦ kept seen_field old c.field_of.result more w.in_default.not-Some c.field_of.ensures c.match-field_of.fields w.fields-is
    ])
