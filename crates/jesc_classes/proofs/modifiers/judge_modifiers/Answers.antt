use Rattle.std.proofs.Common.{◌+◌, ◌∷◌, [], List, Ok, ap, subst, take, drop}
use Rattle.jesc_ast.specs.declared.word.Word.{Word}
use Rattle.jesc_classes.specs.Headings.{Judges, modifier, modifiers_from}
use Rattle.jesc_classes.specs.Sources.{seen}
use Rattle.jesc_classes.proofs.Walk.{goes_on, stops, modifier_at, along, drop_end}
use Rattle.jesc_classes.proofs.modifiers.judge_modifiers.Goals as goal

pub returns-in_err-judge_modifier : goal.returns-in_err-judge_modifier
returns-in_err-judge_modifier c given =
    let s = seen c.args.class.now in
    let words = c.as_slice-words.result.now in
    let w = c.index-words-i.result in
    subst (λ (l : List Word). Judges given c.from_residual.result (modifiers_from s [] l)) c.as_slice-words.ensures
    (c.loop-i.invariant given _ (along given _ _ _ (modifier_at s words c.loop-i.i w c.loop-i-test.true c.index-words-i.is)
    (stops given (modifier s (take c.loop-i.i words) w ∷ []) _ _ c.in_err-judge_modifier.field-0.0 c.from_residual.ensures.1 (c.in_err-judge_modifier.ensures given))))

pub loop-i-preserved : goal.loop-i-preserved
loop-i-preserved c given r h =
    let s = seen c.args.class.now in
    let words = c.as_slice-words.result.now in
    let w = c.index-words-i.result in
    c.loop-i.invariant given r (along given r _ _ (modifier_at s words c.loop-i.i w c.loop-i-test.true c.index-words-i.is)
    (goes_on given (modifier s (take c.loop-i.i words) w ∷ []) (modifiers_from s (take (c.loop-i.i + 1) words) (drop (c.loop-i.i + 1) words)) r (c.in_ok-judge_modifier.ensures given) h))

pub returns : goal.returns
returns c given =
    let s = seen c.args.class.now in
    let words = c.as_slice-words.result.now in
    subst (λ (l : List Word). Judges given (Ok (tt {0})) (modifiers_from s [] l)) c.as_slice-words.ensures
    (c.loop-i.invariant given (Ok (tt {0}))
    (along given (Ok (tt {0})) _ [] (ap (modifiers_from s (take c.loop-i.i words)) (drop_end words c.loop-i.i c.loop-i-test.false)) (tt {0})))
