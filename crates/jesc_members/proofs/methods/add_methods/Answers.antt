use Rattle.std.proofs.Common.{◌∙◌, map}
use Rattle.jesc_classes.specs.Sources.{seen}
use Rattle.jesc_members.specs.Methods.{method_in}
use Rattle.jesc_members.specs.Seen.{seen_method}
use Rattle.jesc_members.proofs.GivenFields.{more_methods, appended, kept}
use Rattle.jesc_members.proofs.methods.add_methods.Goals as goal
use Rattle.jesc_members.proofs.methods.add_methods.Goals.{in-Some+in_ok-push, in_default}

pub loop-member-preserved : goal.loop-member-preserved
loop-member-preserved c =
    let s = seen c.args.class.now in
    let old = c.loop-member.methods in
    let more = method_in c.args.number s c.member-item.result.node in
    more_methods c.args.number s c.as_slice-member-items.result.now c.loop-member.member-index c.member-item.result c.loop-member-test.true c.member-item.is
    (map seen_method c.args.methods.now) (map seen_method old) (map seen_method c.match-method_of.methods) c.loop-member.invariant
    (elim c.match-method_of.branch [
      | in-Some+in_ok-push w ↦ appended seen_method old c.method_of.result w.in-Some.method more w.in-Some.is c.method_of.ensures c.match-method_of.methods (w.methods-is ∙ w.in_ok-push.ensures.ok)
      | in_default w ↦ kept seen_method old c.method_of.result more w.in_default.not-Some c.method_of.ensures c.match-method_of.methods w.methods-is
    ])
