use Rattle.std.proofs.Common.{◌+◌, ◌∷◌, [], Ok, ap, map, drop}
use Rattle.jesc_classes.specs.Sources.{seen}
use Rattle.jesc_member_rules.specs.Members.{group}
use Rattle.jesc_member_rules.proofs.JudgingWalk.{goes_on, stops, word_at, along, drop_end}
use Rattle.jesc_member_rules.proofs.field_rules.judge_groups.Goals as goal

pub returns-in_err-judge_group : goal.returns-in_err-judge_group
returns-in_err-judge_group c =
    let given = c.args.known.now in
    let part = group c.args.field.now.number (seen c.args.field.now.class) in
    c.loop-word.invariant _ (along given _ _ _ (word_at part c.args.words.now c.loop-word.word-index c.word-item.result c.loop-word-test.true c.word-item.is)
    (stops given (part c.word-item.result ∷ []) _ _ c.in_err-judge_group.field-0.0 c.from_residual.ensures.1 c.in_err-judge_group.ensures))

pub loop-word-preserved : goal.loop-word-preserved
loop-word-preserved c r h =
    let given = c.args.known.now in
    let part = group c.args.field.now.number (seen c.args.field.now.class) in
    c.loop-word.invariant r (along given r _ _ (word_at part c.args.words.now c.loop-word.word-index c.word-item.result c.loop-word-test.true c.word-item.is)
    (goes_on given (part c.word-item.result ∷ []) (map part (drop (c.loop-word.word-index + 1) c.args.words.now)) r c.in_ok-judge_group.ensures h))

pub returns : goal.returns
returns c =
    let part = group c.args.field.now.number (seen c.args.field.now.class) in
    c.loop-word.invariant (Ok (tt {0}))
    (along c.args.known.now (Ok (tt {0})) _ [] (ap (map part) (drop_end c.args.words.now c.loop-word.word-index c.loop-word-test.false)) (tt {0}))
