use Rattle.std.proofs.Common.{◌∷◌, ◌++◌, [], List, map, subst}
use Rattle.jesc_ast.specs.declared.word.Word.{Word}
use Rattle.jesc_ast.specs.declared.class.ParamTree.{ParamTree}
use Rattle.jesc_classes.specs.Sources.{seen}
use Rattle.jesc_member_rules.specs.Members.{Judges, modifiers_from, constructor_name, parameters_from, thrown}
use Rattle.jesc_member_rules.specs.Modifiers.{constructor_of}
use Rattle.jesc_member_rules.proofs.JudgingWalk.{goes_on, stops}
use Rattle.jesc_member_rules.proofs.JudgingHeads.{err_like, hold_like}
use Rattle.jesc_member_rules.proofs.method_rules.judge_constructor.Goals as goal

pub returns-in_err-judge_modifiers : goal.returns-in_err-judge_modifiers
returns-in_err-judge_modifiers c before are =
    let given = c.args.known.now in
    let s = seen c.args.class.now in
    let t = c.args.tree.now in
    let others = constructor_name s before t ∷ (parameters_from s [] t.params ++ map (thrown s) t.throws) in
    stops given (modifiers_from s constructor_of [] t.modifiers) others _ c.in_err-judge_modifiers.field-0.0 c.from_residual.ensures.1
    (err_like given (λ (ws : List Word). modifiers_from s constructor_of [] ws) _ _ _ c.as_slice-modifiers.ensures (c.in_err-judge_modifiers.ensures given))

pub returns-in_err-answer_at : goal.returns-in_err-answer_at
returns-in_err-answer_at c before are =
    let given = c.args.known.now in
    let s = seen c.args.class.now in
    let t = c.args.tree.now in
    let others = parameters_from s [] t.params ++ map (thrown s) t.throws in
    goes_on given (modifiers_from s constructor_of [] t.modifiers) (constructor_name s before t ∷ others) _
    (hold_like given (λ (ws : List Word). modifiers_from s constructor_of [] ws) _ _ c.as_slice-modifiers.ensures (c.in_ok-judge_modifiers.ensures given))
    (stops given (constructor_name s before t ∷ []) others _ c.in_err-answer_at.field-0.0 c.from_residual-in_err-answer_at.ensures.1
    (c.in_err-answer_at.ensures given (constructor_name s before t) (c.broken_by_constructor-broken.ensures given before are)))

pub returns : goal.returns
returns c before are =
    let given = c.args.known.now in
    let s = seen c.args.class.now in
    let t = c.args.tree.now in
    let others = parameters_from s [] t.params ++ map (thrown s) t.throws in
    goes_on given (modifiers_from s constructor_of [] t.modifiers) (constructor_name s before t ∷ others) _
    (hold_like given (λ (ws : List Word). modifiers_from s constructor_of [] ws) _ _ c.as_slice-modifiers.ensures (c.in_ok-judge_modifiers.ensures given))
    (goes_on given (constructor_name s before t ∷ []) others _ (c.in_ok-answer_at.ensures given (constructor_name s before t) (c.broken_by_constructor-broken.ensures given before are))
    (subst (λ (ws : List Word). Judges given c.judge_signature.result (parameters_from s [] t.params ++ map (thrown s) ws)) c.as_slice-throws.ensures
    (subst (λ (ps : List ParamTree). Judges given c.judge_signature.result (parameters_from s [] ps ++ map (thrown s) c.as_slice-throws.result.now)) c.as_slice-parameters.ensures c.judge_signature.ensures)))
