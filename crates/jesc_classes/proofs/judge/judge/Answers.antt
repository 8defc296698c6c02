use Rattle.std.proofs.Common.{◌+◌, [], Ok, ap, sym, subst, refl, length, arith}
use Rattle.std.proofs.lemmas.Option.{slice_get_read}
use Rattle.jesc_classes.specs.Given.{ArePlaced}
use Rattle.jesc_classes.specs.Headings.{Source, heading, headings_from}
use Rattle.jesc_classes.specs.Sources.{seen}
use Rattle.jesc_classes.proofs.Walk.{goes_on, stops, heading_at, along, drop_end, seen_at, seen_length}
use Rattle.jesc_classes.proofs.judge.judge.Goals as goal

pub judge_class-requires-clause-placed : goal.judge_class-requires-clause-placed
judge_class-requires-clause-placed c =
    let s = seen c.class-item.result in
    let at = seen_at seen c.list-class-items.result.now c.args.classes.now c.loop-i.i c.class-item.result c.list-class-items.ensures c.loop-i-test.true c.class-item.is in
    subst (λ (x : Source). ArePlaced x) (sym at.1) (c.requires.placed c.loop-i.i s at.0)

pub judge_class-requires-clause-number : goal.judge_class-requires-clause-number
judge_class-requires-clause-number c =
    let at = seen_at seen c.list-class-items.result.now c.args.classes.now c.loop-i.i c.class-item.result c.list-class-items.ensures c.loop-i-test.true c.class-item.is in
    (c.loop-i.i, refl, slice_get_read c.args.classes.now (length c.args.classes.now) c.loop-i.i (seen c.class-item.result) refl at.0 at.1)

pub returns-in_err-judge_class : goal.returns-in_err-judge_class
returns-in_err-judge_class c =
    let given = c.args.classes.now in
    let s = seen c.class-item.result in
    let at = seen_at seen c.list-class-items.result.now given c.loop-i.i c.class-item.result c.list-class-items.ensures c.loop-i-test.true c.class-item.is in
    c.loop-i.invariant _ (along given _ _ _ (heading_at given c.loop-i.i s at.0 at.1)
    (stops given (heading (7 + c.loop-i.i) s) _ _ c.in_err-judge_class.field-0.0 c.from_residual.ensures.1 c.in_err-judge_class.ensures))

pub loop-i-preserved : goal.loop-i-preserved
loop-i-preserved c r h =
    let given = c.args.classes.now in
    let s = seen c.class-item.result in
    let at = seen_at seen c.list-class-items.result.now given c.loop-i.i c.class-item.result c.list-class-items.ensures c.loop-i-test.true c.class-item.is in
    c.loop-i.invariant r (along given r _ _ (heading_at given c.loop-i.i s at.0 at.1)
    (goes_on given (heading (7 + c.loop-i.i) s) _ r c.in_ok-judge_class.ensures h))

pub returns : goal.returns
returns c =
    let given = c.args.classes.now in
    let ended = seen_length seen c.list-class-items.result.now given c.list-class-items.ensures in
    c.loop-i.invariant (Ok (tt {0}))
    (along given (Ok (tt {0})) _ [] (ap (headings_from (7 + c.loop-i.i)) (drop_end given c.loop-i.i (omega (arith, ended, c.loop-i-test.false)))) (tt {0}))
