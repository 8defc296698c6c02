use Rattle.std.proofs.Common.{◌+◌, refl, arith, subst, sym}
use Rattle.jesc_classes.specs.Headings.{Source}
use Rattle.jesc_classes.specs.Sources.{seen}
use Rattle.jesc_classes.proofs.Walk.{seen_at, seen_length}
use Rattle.jesc_members.specs.Placed.{AreMembersPlaced}
use Rattle.jesc_member_rules.specs.Members.{class_parts}
use Rattle.jesc_member_rules.proofs.JudgingClasses.{at_first, class_fields, class_methods, classes_left, behind, at_end}
use Rattle.jesc_member_rules.proofs.JudgingWalk.{along, stops}
use Rattle.jesc_member_rules.proofs.judge.judge_members.Goals as goal

pub loop-i-init : goal.loop-i-init
loop-i-init c = at_first c.args.classes.now _ refl refl

pub judge_class-requires-clause-placed : goal.judge_class-requires-clause-placed
judge_class-requires-clause-placed c =
    let s = seen c.class-item.result in
    let at = seen_at seen c.list-class-items.result.now c.args.classes.now c.loop-i.i c.class-item.result c.list-class-items.ensures c.loop-i-test.true c.class-item.is in
    subst (λ (x : Source). AreMembersPlaced x) (sym at.1) (c.requires.placed c.loop-i.i s at.0)

pub judge_class-requires-clause-number : goal.judge_class-requires-clause-number
judge_class-requires-clause-number c =
    let at = seen_at seen c.list-class-items.result.now c.args.classes.now c.loop-i.i c.class-item.result c.list-class-items.ensures c.loop-i-test.true c.class-item.is in
    omega (arith, at.0)

pub judge_class-requires-clause-fields : goal.judge_class-requires-clause-fields
judge_class-requires-clause-fields c =
    let at = seen_at seen c.list-class-items.result.now c.args.classes.now c.loop-i.i c.class-item.result c.list-class-items.ensures c.loop-i-test.true c.class-item.is in
    class_fields c.args.classes.now c.loop-i.i c.loop-i.counts c.loop-i.invariant (seen c.class-item.result) at.0 at.1

pub judge_class-requires-clause-methods : goal.judge_class-requires-clause-methods
judge_class-requires-clause-methods c =
    let at = seen_at seen c.list-class-items.result.now c.args.classes.now c.loop-i.i c.class-item.result c.list-class-items.ensures c.loop-i-test.true c.class-item.is in
    class_methods c.args.classes.now c.loop-i.i c.loop-i.counts c.loop-i.invariant (seen c.class-item.result) at.0 at.1

pub returns-in_err-counts : goal.returns-in_err-counts
returns-in_err-counts c =
    let given = c.args.classes.now in
    let s = seen c.class-item.result in
    let at = seen_at seen c.list-class-items.result.now given c.loop-i.i c.class-item.result c.list-class-items.ensures c.loop-i-test.true c.class-item.is in
    c.loop-i.invariant.rest _ (along given _ _ _ (classes_left given c.loop-i.i c.loop-i.counts c.loop-i.invariant s at.0 at.1)
    (stops given (class_parts (7 + c.loop-i.i) c.loop-i.counts.fields c.loop-i.counts.methods s) _ _ c.in_err-counts.field-0.0 c.from_residual.ensures.1 c.in_err-counts.ensures.judged))

pub loop-i-preserved : goal.loop-i-preserved
loop-i-preserved c =
    let given = c.args.classes.now in
    let s = seen c.class-item.result in
    let at = seen_at seen c.list-class-items.result.now given c.loop-i.i c.class-item.result c.list-class-items.ensures c.loop-i-test.true c.class-item.is in
    behind given c.loop-i.i c.loop-i.counts c.loop-i.invariant s at.0 at.1 _ c.in_ok-counts.ensures.fields c.in_ok-counts.ensures.methods c.in_ok-counts.ensures.judged

pub returns : goal.returns
returns c =
    let given = c.args.classes.now in
    let ended = seen_length seen c.list-class-items.result.now given c.list-class-items.ensures in
    at_end given c.loop-i.i c.loop-i.counts c.loop-i.invariant (omega (arith, ended, c.loop-i-test.false))
