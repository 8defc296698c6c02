use Rattle.std.proofs.Common.{◌≡◌, ◌↔◌, ℕ, true, Bool, List, subst, ◌∙◌, inl, inr, refl}
use Rattle.jesc_classes.specs.Headings.{Source}
use Rattle.jesc_members.specs.Methods.{MethodOf}
use Rattle.jesc_members.specs.Overriding.{Differ, IsOneHidden, IsPairAbove}
use Rattle.jesc_member_rules.proofs.JudgingMethods.{never}
use Rattle.jesc_member_rules.proofs.judge.broken_by_inheritance.Goals as goal

-- what is known of the inherited list is known of the given one
here : (given inside : List Source) (class : ℕ) (P : MethodOf → MethodOf → Type 0) (b : Bool) → inside ≡ given → (b ≡ true) ↔ IsPairAbove inside class P → (b ≡ true) ↔ IsPairAbove given class P
here given inside class P b same h = subst (λ (l : List Source). (b ≡ true) ↔ IsPairAbove l class P) same h

pub returns-then-has_hidden : goal.returns-then-has_hidden
returns-then-has_hidden c =
    let given = c.args.known.now in
    let inside = c.known.inside.inheritance.now in
    let same = c.known.invariant.inherited ∙ c.known.view_is in
    let differs = here given inside c.args.number Differ c.has_differing.result same c.has_differing.ensures in
    let hidden = here given inside c.args.number IsOneHidden c.has_hidden.result same c.has_hidden.ensures in
    inr (never _ differs.1 c.if-has_differing.false, inr (never _ c.is_open.ensures.1 c.if-is_open.false, inl (hidden.0 c.if-has_hidden.true, refl)))
