use Rattle.std.proofs.Common.{◌+◌, ◌∷◌, [], take, drop}
use Rattle.jesc_classes.specs.Sources.{seen}
use Rattle.jesc_member_rules.specs.Judging.{seen_bearer}
use Rattle.jesc_member_rules.specs.Members.{modifier, modifiers_from}
use Rattle.jesc_member_rules.proofs.JudgingWalk.{goes_on, stops, modifier_at, along}
use Rattle.jesc_member_rules.proofs.modifiers.judge_modifiers.Goals as goal

pub returns-in_err-judge_modifier : goal.returns-in_err-judge_modifier
returns-in_err-judge_modifier c given =
    let s = seen c.args.class.now in
    let on = seen_bearer c.args.on in
    let words = c.args.words.now in
    let w = c.index-words-i.result in
    c.loop-i.invariant given _ (along given _ _ _ (modifier_at s on words c.loop-i.i w c.loop-i-test.true c.index-words-i.is)
    (stops given (modifier s on (take c.loop-i.i words) w ∷ []) _ _ c.in_err-judge_modifier.field-0.0 c.from_residual.ensures.1 (c.in_err-judge_modifier.ensures given)))

pub loop-i-preserved : goal.loop-i-preserved
loop-i-preserved c given r h =
    let s = seen c.args.class.now in
    let on = seen_bearer c.args.on in
    let words = c.args.words.now in
    let w = c.index-words-i.result in
    c.loop-i.invariant given r (along given r _ _ (modifier_at s on words c.loop-i.i w c.loop-i-test.true c.index-words-i.is)
    (goes_on given (modifier s on (take c.loop-i.i words) w ∷ []) (modifiers_from s on (take (c.loop-i.i + 1) words) (drop (c.loop-i.i + 1) words)) r (c.in_ok-judge_modifier.ensures given) h))
