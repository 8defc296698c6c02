-- Parts of a member one after the other.
use Rattle.std.proofs.Common.{◌≡◌, ℕ, ◌+◌, ◌<◌, List, [], ◌∷◌, ◌++◌, length, take, drop, get_or, Err, ap, sym, ◌∙◌, subst, append_assoc}
use Rattle.jesc_ast.specs.declared.word.Word.{Word}
use Rattle.jesc_ast.specs.declared.class.ParamTree.{ParamTree}
use Rattle.jesc_classes.specs.declared.rule.RuleError.{RuleError}
use Rattle.jesc_classes.specs.Headings.{Source}
use Rattle.jesc_member_rules.specs.Judging.{parameter_parts}
use Rattle.jesc_member_rules.specs.Members.{Part, AllHold, Judges, modifiers_from, parameters_from, written_type, parameter_name}
use Rattle.jesc_member_rules.specs.Modifiers.{parameter}
use Rattle.jesc_member_rules.proofs.JudgingWalk.{rest_at, front_at}

-- words that the code has from a list are those of the tree
pub err_like : (given : List Source) (parts : List Word → List Part) (e : RuleError) (x y : List Word) → x ≡ y → Judges {A = Unit {0}} given (Err e) (parts x) → Judges {A = Unit {0}} given (Err e) (parts y)
err_like given parts e x y is h = subst (λ (z : List Word). Judges {A = Unit {0}} given (Err e) (parts z)) is h

pub hold_like : (given : List Source) (parts : List Word → List Part) (x y : List Word) → x ≡ y → AllHold given (parts x) → AllHold given (parts y)
hold_like given parts x y is h = subst (λ (z : List Word). AllHold given (parts z)) is h

pub parameter_at : (s : Source) (ps : List ParamTree) (i : ℕ) (p : ParamTree) → i < length ps → p ≡ get_or ps i p
    → parameters_from s (take i ps) (drop i ps) ≡ parameter_parts s (take i ps) p ++ parameters_from s (take (i + 1) ps) (drop (i + 1) ps)
parameter_at s ps i p h e =
    ap (parameters_from s (take i ps)) (rest_at ps i p h e)
    ∙ ap (λ before. modifiers_from s (parameter p) [] p.modifiers ++ written_type s p.ty ∷ parameter_name s (take i ps) p ∷ parameters_from s before (drop (i + 1) ps)) (sym (front_at ps i p h e))
    ∙ sym (append_assoc (modifiers_from s (parameter p) [] p.modifiers) (written_type s p.ty ∷ parameter_name s (take i ps) p ∷ []) (parameters_from s (take (i + 1) ps) (drop (i + 1) ps)))
