use Rattle.std.proofs.Common.{ap, sym, ◌∙◌, not, Bool, ℕ, List, length, Some, None, if◌then◌else◌, nat_eq}
use Rattle.std.specs.List.{list_any}
use Rattle.jesc_classes.specs.declared.rule.Rule.TheVariants.{N9}
use Rattle.jesc_classes.specs.Sources.{seen}
use Rattle.jesc_member_rules.proofs.JudgingNames.{repeated_count, fresh_count}
use Rattle.jesc_member_rules.proofs.method_rules.broken_by_constructor.Goals as goal

pub returns-then-has_count : goal.returns-then-has_count
returns-then-has_count c given before are =
    let counted = c.has_count.ensures ∙ ap (λ (n : ℕ). list_any (nat_eq n) c.args.counts.now) c.len.ensures ∙ ap (λ (l : List ℕ). list_any (nat_eq (length c.args.tree.now.params)) l) are in
    repeated_count given (seen c.args.class.now) before c.args.tree.now (sym counted ∙ c.if-has_count.true)

pub returns : goal.returns
returns c given before are =
    let counted = c.has_count.ensures ∙ ap (λ (n : ℕ). list_any (nat_eq n) c.args.counts.now) c.len.ensures ∙ ap (λ (l : List ℕ). list_any (nat_eq (length c.args.tree.now.params)) l) are in
    let out = c.if_broken.ensures ∙ ap (λ (b : Bool). if not b then Some N9 else None) c.constructor_stands.ensures in
    fresh_count given (seen c.args.class.now) before c.args.tree.now c.if_broken.result (sym counted ∙ c.if-has_count.false) out
