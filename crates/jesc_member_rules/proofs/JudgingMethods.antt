-- The rules on methods one after the other.
use Rattle.std.proofs.Common.{◌≡◌, ℕ, ◌<◌, Bool, true, false, List, length, Option, Some, None, inl, inr, refl, sym, ◌∙◌, true≢false, not, if◌then◌else◌}
use Rattle.jesc_ast.specs.Lines.{place_at}
use Rattle.jesc_classes.specs.declared.rule.Rule.{Rule}
use Rattle.jesc_classes.specs.declared.rule.Rule.TheVariants.{N8, N9}
use Rattle.jesc_classes.specs.Headings.{Source, refusal_at}
use Rattle.jesc_member_rules.specs.Judging.{Decides}
use Rattle.jesc_member_rules.specs.Members.{Breaks, method_name, method_stands}
use Rattle.jesc_members.specs.Methods.{MethodOf, own_method, is_final}
use Rattle.jesc_members.specs.Overriding.{Differ, IsOneHidden, IsLikeAbove}
use Rattle.jesc_member_rules.proofs.JudgingWalk.{decides_if}

pub never : {P : Type 0} (b : Bool) → (P → b ≡ true) → b ≡ false → P → ⊥
never b h e p = true≢false (sym (h p) ∙ e)

module _ (given : List Source) (n : ℕ) (m : MethodOf) where
  abbrev pub Differs : Type 0
  Differs = IsLikeAbove given m (Differ m)

  abbrev pub IsLater : Type 0
  IsLater = (k : ℕ) × (own_method given m.tree.name.text (length m.tree.params) m.class ≡ Some k) × (k < n)

  abbrev pub Hides : Type 0
  Hides = IsLikeAbove given m (IsOneHidden m)

  abbrev pub IsSealed : Type 0
  IsSealed = IsLikeAbove given m (λ b. is_final b.tree ≡ true)

  pub hides : (Differs → ⊥) → (IsLater → ⊥) → Hides → Breaks given (method_name n m) (refusal_at N8 m.source m.tree.name)
  hides d l h = inr (d, inr (l, inl (h, refl)))

  pub sealed : (Differs → ⊥) → (IsLater → ⊥) → (Hides → ⊥) → IsSealed → Breaks given (method_name n m) (refusal_at N9 m.source m.tree.name)
  sealed d l h k = inr (d, inr (l, inr (h, inl (inr k, refl))))

  pub ends : (Differs → ⊥) → (IsLater → ⊥) → (Hides → ⊥) → (IsSealed → ⊥) → (o : Option Rule) → o ≡ (if not (method_stands m) then Some N9 else None) → Decides given (method_name n m) (place_at m.source.lines m.tree.name.span) m.tree.name.text o
  ends d l h k o out =
      decides_if given (method_name n m) (place_at m.source.lines m.tree.name.span) m.tree.name.text N9 (not (method_stands m)) o out
      (λ e. inr (d, inr (l, inr (h, inl (inl (false_of (method_stands m) e), refl)))))
      (λ e r b. elim b [
        | inl x ↦ d x.0
        | inr x ↦ elim x.1 [
          | inl y ↦ l y.0
          | inr y ↦ elim y.1 [
            | inl z ↦ h z.0
            | inr z ↦ elim z.1 [
              | inr u ↦ u.1
              | inl u ↦ elim u.0 [
                | inl stands ↦ true≢false (sym (true_of (method_stands m) e) ∙ stands)
                | inr above ↦ k above
              ]
            ]
          ]
        ]
      ])
    where
      false_of : (b : Bool) → not b ≡ true → b ≡ false
      false_of true e = cc
      false_of false e = refl

      true_of : (b : Bool) → not b ≡ false → b ≡ true
      true_of true e = refl
      true_of false e = cc
