use Rattle.std.proofs.Common.{◌+◌, ◌∷◌, [], Ok, ap, map, drop}
use Rattle.jesc_classes.specs.Sources.{seen}
use Rattle.jesc_member_rules.specs.Members.{thrown}
use Rattle.jesc_member_rules.proofs.JudgingWalk.{goes_on, stops, word_at, along, drop_end}
use Rattle.jesc_member_rules.proofs.heads.judge_throws.Goals as goal

pub returns-in_err-answer_at : goal.returns-in_err-answer_at
returns-in_err-answer_at c =
    let given = c.args.known.now in
    let part = thrown (seen c.args.class.now) in
    c.loop-word.invariant _ (along given _ _ _ (word_at part c.args.words.now c.loop-word.word-index c.word-item.result c.loop-word-test.true c.word-item.is)
    (stops given (part c.word-item.result ∷ []) _ _ c.in_err-answer_at.field-0.0 c.from_residual.ensures.1 (c.in_err-answer_at.ensures given (part c.word-item.result) c.broken_by_thrown-broken.ensures)))

pub loop-word-preserved : goal.loop-word-preserved
loop-word-preserved c r h =
    let given = c.args.known.now in
    let part = thrown (seen c.args.class.now) in
    c.loop-word.invariant r (along given r _ _ (word_at part c.args.words.now c.loop-word.word-index c.word-item.result c.loop-word-test.true c.word-item.is)
    (goes_on given (part c.word-item.result ∷ []) (map part (drop (c.loop-word.word-index + 1) c.args.words.now)) r (c.in_ok-answer_at.ensures given (part c.word-item.result) c.broken_by_thrown-broken.ensures) h))

pub returns : goal.returns
returns c =
    let part = thrown (seen c.args.class.now) in
    c.loop-word.invariant (Ok (tt {0}))
    (along c.args.known.now (Ok (tt {0})) _ [] (ap (map part) (drop_end c.args.words.now c.loop-word.word-index c.loop-word-test.false)) (tt {0}))
