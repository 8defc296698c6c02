use Rattle.std.proofs.Common.{◌++◌, ◌∙◌, ap, map}
use Rattle.jesc_classes.specs.Sources.{seen}
use Rattle.jesc_members.specs.Methods.{methods_in}
use Rattle.jesc_members.specs.Seen.{seen_method}
use Rattle.jesc_members.proofs.GivenFields.{more_classes_methods}
use Rattle.jesc_members.proofs.methods.given_methods.Goals as goal

pub loop-place-preserved : goal.loop-place-preserved
loop-place-preserved c =
    let x = c.class-item.result in
    let old = map seen_method c.loop-place.methods in
    more_classes_methods c.list-class-items.result.now c.loop-place.place x c.loop-place-test.true c.class-item.is old (map seen_method c.add_methods.new.methods) c.loop-place.invariant
    (c.in_ok-add_methods.ensures ∙ ap (λ n. old ++ methods_in n (seen x) x.tree.now.members) c.in_ok-class_number.ensures)
