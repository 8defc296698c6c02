use Rattle.std.proofs.Common.{◌≡◌, true, Bool, List, subst, ◌∙◌, ap, ◌↔◌, not, Some, None, if◌then◌else◌}
use Rattle.jesc_classes.specs.declared.rule.Rule.TheVariants.{N9}
use Rattle.jesc_classes.specs.Headings.{Source}
use Rattle.jesc_members.specs.Methods.{MethodOf, is_final}
use Rattle.jesc_members.specs.Overriding.{Differ, IsOneHidden, IsLikeAbove}
use Rattle.jesc_members.specs.Seen.{seen_method}
use Rattle.jesc_member_rules.proofs.JudgingMethods.{never, hides, sealed, ends}
use Rattle.jesc_member_rules.proofs.method_rules.broken_by_method.Goals as goal

-- what is known of the inherited list is known of the given one
here : (given inside : List Source) (m : MethodOf) (P : MethodOf → Type 0) (b : Bool) → inside ≡ given → (b ≡ true) ↔ IsLikeAbove inside m P → (b ≡ true) ↔ IsLikeAbove given m P
here given inside m P b same h = subst (λ (l : List Source). (b ≡ true) ↔ IsLikeAbove l m P) same h

pub returns-then-overridden-2 : goal.returns-then-overridden-2
returns-then-overridden-2 c =
    let given = c.args.known.now in
    let inside = c.known.inside.inheritance.now in
    let m = seen_method c.args.method.now in
    let same = c.known.invariant.inherited ∙ c.known.view_is in
    let found = c.overridden-overridden in
    let differs = here given inside m (Differ m) found.result.differs same found.ensures.differs in
    let hidden = here given inside m (IsOneHidden m) found.result.is_hidden same found.ensures.hidden in
    hides given c.args.number m (never _ differs.1 c.if-overridden.false) (never _ c.is_later_method.ensures.1 c.if-is_later_method.false) (hidden.0 c.if-overridden-2.true)

pub returns-then-overridden-3 : goal.returns-then-overridden-3
returns-then-overridden-3 c =
    let given = c.args.known.now in
    let inside = c.known.inside.inheritance.now in
    let m = seen_method c.args.method.now in
    let same = c.known.invariant.inherited ∙ c.known.view_is in
    let found = c.overridden-overridden in
    let differs = here given inside m (Differ m) found.result.differs same found.ensures.differs in
    let hidden = here given inside m (IsOneHidden m) found.result.is_hidden same found.ensures.hidden in
    let final = here given inside m (λ b. is_final b.tree ≡ true) found.result.is_final same found.ensures.sealed in
    sealed given c.args.number m (never _ differs.1 c.if-overridden.false) (never _ c.is_later_method.ensures.1 c.if-is_later_method.false) (never _ hidden.1 c.if-overridden-2.false) (final.0 c.if-overridden-3.true)

pub returns : goal.returns
returns c =
    let given = c.args.known.now in
    let inside = c.known.inside.inheritance.now in
    let m = seen_method c.args.method.now in
    let same = c.known.invariant.inherited ∙ c.known.view_is in
    let found = c.overridden-overridden in
    let differs = here given inside m (Differ m) found.result.differs same found.ensures.differs in
    let hidden = here given inside m (IsOneHidden m) found.result.is_hidden same found.ensures.hidden in
    let final = here given inside m (λ b. is_final b.tree ≡ true) found.result.is_final same found.ensures.sealed in
    let out = c.if_broken.ensures ∙ ap (λ (b : Bool). if not b then Some N9 else None) c.method_stands.ensures in
    ends given c.args.number m (never _ differs.1 c.if-overridden.false) (never _ c.is_later_method.ensures.1 c.if-is_later_method.false) (never _ hidden.1 c.if-overridden-2.false) (never _ final.1 c.if-overridden-3.false) c.if_broken.result out
