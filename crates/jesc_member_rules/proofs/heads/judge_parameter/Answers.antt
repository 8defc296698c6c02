use Rattle.std.proofs.Common.{◌∷◌, [], List}
use Rattle.jesc_ast.specs.declared.word.Word.{Word}
use Rattle.jesc_classes.specs.Sources.{seen}
use Rattle.jesc_member_rules.specs.Members.{modifiers_from, written_type, parameter_name}
use Rattle.jesc_member_rules.specs.Modifiers.{parameter}
use Rattle.jesc_member_rules.proofs.JudgingWalk.{goes_on, stops}
use Rattle.jesc_member_rules.proofs.JudgingHeads.{err_like, hold_like}
use Rattle.jesc_member_rules.proofs.heads.judge_parameter.Goals as goal

pub returns-in_err-judge_modifiers-clause-judged : goal.returns-in_err-judge_modifiers-clause-judged
returns-in_err-judge_modifiers-clause-judged c before are =
    let given = c.args.known.now in
    let s = seen c.args.class.now in
    let p = c.args.parameter.now in
    stops given (modifiers_from s (parameter p) [] p.modifiers) (written_type s p.ty ∷ parameter_name s before p ∷ []) _ c.in_err-judge_modifiers.field-0.0 c.from_residual.ensures.1
    (err_like given (λ (ws : List Word). modifiers_from s (parameter p) [] ws) _ _ _ c.as_slice-modifiers.ensures (c.in_err-judge_modifiers.ensures given))

pub returns-in_err-judge_type-clause-judged : goal.returns-in_err-judge_type-clause-judged
returns-in_err-judge_type-clause-judged c before are =
    let given = c.args.known.now in
    let s = seen c.args.class.now in
    let p = c.args.parameter.now in
    goes_on given (modifiers_from s (parameter p) [] p.modifiers) (written_type s p.ty ∷ parameter_name s before p ∷ []) _
    (hold_like given (λ (ws : List Word). modifiers_from s (parameter p) [] ws) _ _ c.as_slice-modifiers.ensures (c.in_ok-judge_modifiers.ensures given))
    (stops given (written_type s p.ty ∷ []) (parameter_name s before p ∷ []) _ c.in_err-judge_type.field-0.0 c.from_residual-in_err-judge_type.ensures.1 c.in_err-judge_type.ensures)

pub returns-clause-judged : goal.returns-clause-judged
returns-clause-judged c before are =
    let given = c.args.known.now in
    let s = seen c.args.class.now in
    let p = c.args.parameter.now in
    goes_on given (modifiers_from s (parameter p) [] p.modifiers) (written_type s p.ty ∷ parameter_name s before p ∷ []) _
    (hold_like given (λ (ws : List Word). modifiers_from s (parameter p) [] ws) _ _ c.as_slice-modifiers.ensures (c.in_ok-judge_modifiers.ensures given))
    (goes_on given (written_type s p.ty ∷ []) (parameter_name s before p ∷ []) _ c.in_ok-judge_type.ensures (c.judge_parameter_name.ensures.judged given before are))
