use Rattle.std.proofs.Common.{◌∷◌, [], List, Err, map, subst, sym}
use Rattle.std.specs.List.{All}
use Rattle.jesc_ast.specs.declared.word.Word.{Word}
use Rattle.jesc_classes.specs.Clauses.{NamesSuper}
use Rattle.jesc_classes.specs.Headings.{Judges, AllHold, extended, implemented, modifiers_from, own_name}
use Rattle.jesc_classes.specs.Sources.{seen}
use Rattle.jesc_classes.proofs.Supers.{extended_known, implemented_known}
use Rattle.jesc_classes.proofs.Walk.{goes_on, stops}
use Rattle.jesc_classes.proofs.judge.judge_class.Goals as goal

pub returns-in_err-judge_modifiers : goal.returns-in_err-judge_modifiers
returns-in_err-judge_modifiers c =
    let given = c.args.hierarchy.now in
    let s = seen c.args.class.now in
    stops given (modifiers_from s [] s.tree.modifiers) _ _ c.in_err-judge_modifiers.field-0.0 c.from_residual.ensures.1 (c.in_err-judge_modifiers.ensures given)

pub returns-in_err-judge_name : goal.returns-in_err-judge_name
returns-in_err-judge_name c =
    let given = c.args.hierarchy.now in
    let s = seen c.args.class.now in
    goes_on given (modifiers_from s [] s.tree.modifiers) _ _ (c.in_ok-judge_modifiers.ensures given)
    (stops given (own_name c.args.number s ∷ []) _ _ c.in_err-judge_name.field-0.0 c.from_residual-in_err-judge_name.ensures.1 c.in_err-judge_name.ensures)

pub judge_words-requires-clause-names : goal.judge_words-requires-clause-names
judge_words-requires-clause-names c =
    let given = c.args.hierarchy.now in
    subst (λ (words : List Word). All (NamesSuper given c.args.number) words) (sym c.as_slice-extended.ensures) (extended_known given c.args.number (seen c.args.class.now) c.requires.number)

pub returns-in_err-judge_words : goal.returns-in_err-judge_words
returns-in_err-judge_words c =
    let given = c.args.hierarchy.now in
    let s = seen c.args.class.now in
    goes_on given (modifiers_from s [] s.tree.modifiers) _ _ (c.in_ok-judge_modifiers.ensures given)
    (goes_on given (own_name c.args.number s ∷ []) _ _ c.in_ok-judge_name.ensures
    (stops given (map (extended c.args.number s) s.tree.extends) _ _ c.in_err-judge_words.field-0.0 c.from_residual-in_err-judge_words.ensures.1
    (subst (λ (words : List Word). Judges {A = Unit {0}} given (Err c.in_err-judge_words.field-0.0) (map (extended c.args.number s) words)) c.as_slice-extended.ensures c.in_err-judge_words.ensures)))

pub judge_words-requires-2-clause-names : goal.judge_words-requires-2-clause-names
judge_words-requires-2-clause-names c =
    let given = c.args.hierarchy.now in
    subst (λ (words : List Word). All (NamesSuper given c.args.number) words) (sym c.as_slice-implemented.ensures) (implemented_known given c.args.number (seen c.args.class.now) c.requires.number)

pub returns : goal.returns
returns c =
    let given = c.args.hierarchy.now in
    let s = seen c.args.class.now in
    goes_on given (modifiers_from s [] s.tree.modifiers) _ _ (c.in_ok-judge_modifiers.ensures given)
    (goes_on given (own_name c.args.number s ∷ []) _ _ c.in_ok-judge_name.ensures
    (goes_on given (map (extended c.args.number s) s.tree.extends) _ _ (subst (λ (words : List Word). AllHold given (map (extended c.args.number s) words)) c.as_slice-extended.ensures c.in_ok-judge_words.ensures)
    (subst (λ (words : List Word). Judges given c.judge_words-2.result (map (implemented c.args.number s) words)) c.as_slice-implemented.ensures c.judge_words-2.ensures)))
