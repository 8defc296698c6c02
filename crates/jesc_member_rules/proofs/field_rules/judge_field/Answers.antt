use Rattle.std.proofs.Common.{◌∷◌, [], List, map, subst}
use Rattle.jesc_ast.specs.declared.word.Word.{Word}
use Rattle.jesc_classes.specs.Sources.{seen}
use Rattle.jesc_member_rules.specs.Judging.{seen_bearer}
use Rattle.jesc_member_rules.specs.Members.{Judges, modifiers_from, written_type, field_name, group}
use Rattle.jesc_members.specs.Seen.{seen_field}
use Rattle.jesc_member_rules.proofs.JudgingWalk.{goes_on, stops}
use Rattle.jesc_member_rules.proofs.JudgingHeads.{err_like, hold_like}
use Rattle.jesc_member_rules.proofs.field_rules.judge_field.Goals as goal

pub returns-in_err-judge_modifiers : goal.returns-in_err-judge_modifiers
returns-in_err-judge_modifiers c =
    let given = c.args.known.now in
    let s = seen c.args.field.now.class in
    let f = seen_field c.args.field.now in
    let on = seen_bearer c.args.on in
    let others = written_type s f.tree.ty ∷ field_name c.args.number f ∷ map (group f.class s) f.tree.groups in
    stops given (modifiers_from s on [] f.tree.modifiers) others _ c.in_err-judge_modifiers.field-0.0 c.from_residual.ensures.1
    (err_like given (λ (ws : List Word). modifiers_from s on [] ws) _ _ _ c.as_slice-modifiers.ensures (c.in_err-judge_modifiers.ensures given))

pub returns-in_err-judge_type : goal.returns-in_err-judge_type
returns-in_err-judge_type c =
    let given = c.args.known.now in
    let s = seen c.args.field.now.class in
    let f = seen_field c.args.field.now in
    let on = seen_bearer c.args.on in
    let others = field_name c.args.number f ∷ map (group f.class s) f.tree.groups in
    goes_on given (modifiers_from s on [] f.tree.modifiers) (written_type s f.tree.ty ∷ others) _
    (hold_like given (λ (ws : List Word). modifiers_from s on [] ws) _ _ c.as_slice-modifiers.ensures (c.in_ok-judge_modifiers.ensures given))
    (stops given (written_type s f.tree.ty ∷ []) others _ c.in_err-judge_type.field-0.0 c.from_residual-in_err-judge_type.ensures.1 c.in_err-judge_type.ensures)

pub returns-in_err-judge_field_name : goal.returns-in_err-judge_field_name
returns-in_err-judge_field_name c =
    let given = c.args.known.now in
    let s = seen c.args.field.now.class in
    let f = seen_field c.args.field.now in
    let on = seen_bearer c.args.on in
    let others = map (group f.class s) f.tree.groups in
    goes_on given (modifiers_from s on [] f.tree.modifiers) (written_type s f.tree.ty ∷ field_name c.args.number f ∷ others) _
    (hold_like given (λ (ws : List Word). modifiers_from s on [] ws) _ _ c.as_slice-modifiers.ensures (c.in_ok-judge_modifiers.ensures given))
    (goes_on given (written_type s f.tree.ty ∷ []) (field_name c.args.number f ∷ others) _ c.in_ok-judge_type.ensures
    (stops given (field_name c.args.number f ∷ []) others _ c.in_err-judge_field_name.field-0.0 c.from_residual-in_err-judge_field_name.ensures.1 c.in_err-judge_field_name.ensures))

pub returns : goal.returns
returns c =
    let given = c.args.known.now in
    let s = seen c.args.field.now.class in
    let f = seen_field c.args.field.now in
    let on = seen_bearer c.args.on in
    let others = map (group f.class s) f.tree.groups in
    goes_on given (modifiers_from s on [] f.tree.modifiers) (written_type s f.tree.ty ∷ field_name c.args.number f ∷ others) _
    (hold_like given (λ (ws : List Word). modifiers_from s on [] ws) _ _ c.as_slice-modifiers.ensures (c.in_ok-judge_modifiers.ensures given))
    (goes_on given (written_type s f.tree.ty ∷ []) (field_name c.args.number f ∷ others) _ c.in_ok-judge_type.ensures
    (goes_on given (field_name c.args.number f ∷ []) others _ c.in_ok-judge_field_name.ensures
    (subst (λ (ws : List Word). Judges given c.judge_groups.result (map (group f.class s) ws)) c.as_slice-groups.ensures c.judge_groups.ensures)))
