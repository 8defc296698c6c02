use Rattle.std.proofs.Common.{◌∷◌, ◌++◌, [], List, map, subst}
use Rattle.jesc_ast.specs.declared.word.Word.{Word}
use Rattle.jesc_ast.specs.declared.class.ParamTree.{ParamTree}
use Rattle.jesc_classes.specs.Sources.{seen}
use Rattle.jesc_member_rules.specs.Members.{Judges, modifiers_from, result_parts, method_name, parameters_from, thrown}
use Rattle.jesc_member_rules.specs.Modifiers.{method}
use Rattle.jesc_members.specs.Seen.{seen_method}
use Rattle.jesc_member_rules.proofs.JudgingWalk.{goes_on, stops}
use Rattle.jesc_member_rules.proofs.JudgingHeads.{err_like, hold_like}
use Rattle.jesc_member_rules.proofs.method_rules.judge_method.Goals as goal

pub returns-in_err-judge_modifiers : goal.returns-in_err-judge_modifiers
returns-in_err-judge_modifiers c =
    let given = c.args.known.now in
    let s = seen c.args.method.now.class in
    let m = seen_method c.args.method.now in
    let others = result_parts s m.tree.result ++ method_name c.args.number m ∷ (parameters_from s [] m.tree.params ++ map (thrown s) m.tree.throws) in
    stops given (modifiers_from s (method m.tree) [] m.tree.modifiers) others _ c.in_err-judge_modifiers.field-0.0 c.from_residual.ensures.1
    (err_like given (λ (ws : List Word). modifiers_from s (method m.tree) [] ws) _ _ _ c.as_slice-modifiers.ensures (c.in_err-judge_modifiers.ensures given))

pub returns-in_err-judge_result : goal.returns-in_err-judge_result
returns-in_err-judge_result c =
    let given = c.args.known.now in
    let s = seen c.args.method.now.class in
    let m = seen_method c.args.method.now in
    let others = method_name c.args.number m ∷ (parameters_from s [] m.tree.params ++ map (thrown s) m.tree.throws) in
    goes_on given (modifiers_from s (method m.tree) [] m.tree.modifiers) (result_parts s m.tree.result ++ others) _
    (hold_like given (λ (ws : List Word). modifiers_from s (method m.tree) [] ws) _ _ c.as_slice-modifiers.ensures (c.in_ok-judge_modifiers.ensures given))
    (stops given (result_parts s m.tree.result) others _ c.in_err-judge_result.field-0.0 c.from_residual-in_err-judge_result.ensures.1 c.in_err-judge_result.ensures)

pub returns-in_err-judge_method_name : goal.returns-in_err-judge_method_name
returns-in_err-judge_method_name c =
    let given = c.args.known.now in
    let s = seen c.args.method.now.class in
    let m = seen_method c.args.method.now in
    let others = parameters_from s [] m.tree.params ++ map (thrown s) m.tree.throws in
    goes_on given (modifiers_from s (method m.tree) [] m.tree.modifiers) (result_parts s m.tree.result ++ method_name c.args.number m ∷ others) _
    (hold_like given (λ (ws : List Word). modifiers_from s (method m.tree) [] ws) _ _ c.as_slice-modifiers.ensures (c.in_ok-judge_modifiers.ensures given))
    (goes_on given (result_parts s m.tree.result) (method_name c.args.number m ∷ others) _ c.in_ok-judge_result.ensures
    (stops given (method_name c.args.number m ∷ []) others _ c.in_err-judge_method_name.field-0.0 c.from_residual-in_err-judge_method_name.ensures.1 c.in_err-judge_method_name.ensures))

pub returns : goal.returns
returns c =
    let given = c.args.known.now in
    let s = seen c.args.method.now.class in
    let m = seen_method c.args.method.now in
    let others = parameters_from s [] m.tree.params ++ map (thrown s) m.tree.throws in
    goes_on given (modifiers_from s (method m.tree) [] m.tree.modifiers) (result_parts s m.tree.result ++ method_name c.args.number m ∷ others) _
    (hold_like given (λ (ws : List Word). modifiers_from s (method m.tree) [] ws) _ _ c.as_slice-modifiers.ensures (c.in_ok-judge_modifiers.ensures given))
    (goes_on given (result_parts s m.tree.result) (method_name c.args.number m ∷ others) _ c.in_ok-judge_result.ensures
    (goes_on given (method_name c.args.number m ∷ []) others _ c.in_ok-judge_method_name.ensures
    (subst (λ (ws : List Word). Judges given c.judge_signature.result (parameters_from s [] m.tree.params ++ map (thrown s) ws)) c.as_slice-throws.ensures
    (subst (λ (ps : List ParamTree). Judges given c.judge_signature.result (parameters_from s [] ps ++ map (thrown s) c.as_slice-throws.result.now)) c.as_slice-parameters.ensures c.judge_signature.ensures))))
