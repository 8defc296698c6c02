-- What a word of a clause breaks.
use Rattle.std.proofs.Common.{◌≡◌, ℕ, List, [], ◌∷◌, Option, Some, None, Err, inl, inr, refl, ap, sym, ◌∙◌, subst}
use Rattle.jesc_ast.specs.Lines.{place_at}
use Rattle.jesc_ast.specs.declared.word.Word.{Word}
use Rattle.jesc_classes.specs.declared.rule.Rule.{Rule}
use Rattle.jesc_classes.specs.declared.rule.Rule.TheVariants.{N1, N3, N9}
use Rattle.jesc_classes.specs.declared.rule.RuleError.{RuleError}
use Rattle.jesc_classes.specs.declared.rule.RuleError.TheVariants.{Refused}
use Rattle.jesc_classes.specs.declared.hierarchy.Clause.{Clause}
use Rattle.jesc_classes.specs.declared.hierarchy.Clause.TheVariants.{Extends, Implements}
use Rattle.jesc_classes.specs.Answers.{Refusal}
use Rattle.jesc_classes.specs.Clauses.{MayStand, part_in}
use Rattle.jesc_classes.specs.Headings.{Source, class_named, refusal_at, IsOnCycle, Breaks, BreaksAbove, Holds, Judges}

some_or_none : {x : ℕ} → Some x ≡ None → ⊥
some_or_none e = cc

some_injective : {x y : ℕ} → Some x ≡ Some y → x ≡ y
some_injective e = cc

module _ (given : List Source) where
  -- the code found the class in the same list and by the same name
  pub known : (inside : List Source) (w : Word) (name : List ℕ) (o : Option ℕ) → inside ≡ given → name ≡ w.text → o ≡ class_named inside name → class_named given w.text ≡ o
  known inside w name o same text found = ap (λ (l : List Source). class_named l w.text) (sym same) ∙ ap (class_named inside) (sym text) ∙ sym found

  module _ (clause : Clause) (i : ℕ) (s : Source) (w : Word) where
    breaks_in : (r : Refusal) → BreaksAbove given i s w (MayStand given clause s.tree.is_interface) r → Breaks given (part_in clause i s w) r
    breaks_in r = by clause
      where
        by : (clause : Clause) → BreaksAbove given i s w (MayStand given clause s.tree.is_interface) r → Breaks given (part_in clause i s w) r
        by Extends b = b
        by Implements b = b

    broken_in : (r : Refusal) → Breaks given (part_in clause i s w) r → BreaksAbove given i s w (MayStand given clause s.tree.is_interface) r
    broken_in r = by clause
      where
        by : (clause : Clause) → Breaks given (part_in clause i s w) r → BreaksAbove given i s w (MayStand given clause s.tree.is_interface) r
        by Extends b = b
        by Implements b = b

    refused : (number : Rule) (e : RuleError) → e ≡ Refused number (place_at s.lines w.span) w.text → BreaksAbove given i s w (MayStand given clause s.tree.is_interface) (refusal_at number s w) → Judges {A = Unit {0}} given (Err e) (part_in clause i s w ∷ [])
    refused number e is b = subst (λ (x : RuleError). Judges {A = Unit {0}} given (Err x) (part_in clause i s w ∷ [])) (sym is) (inl (breaks_in (refusal_at number s w) b))

    pub unknown : (e : RuleError) → e ≡ Refused N1 (place_at s.lines w.span) w.text → class_named given w.text ≡ None → Judges {A = Unit {0}} given (Err e) (part_in clause i s w ∷ [])
    unknown e is none = refused N1 e is (inl (none, refl))

    module _ (above : ℕ) (found : class_named given w.text ≡ Some above) where
      pub on_cycle : (e : RuleError) → e ≡ Refused N3 (place_at s.lines w.span) w.text → IsOnCycle given i above → Judges {A = Unit {0}} given (Err e) (part_in clause i s w ∷ [])
      on_cycle e is cycle = refused N3 e is (inr (above, found, inl (cycle, refl)))

      pub of_wrong_kind : (e : RuleError) → e ≡ Refused N9 (place_at s.lines w.span) w.text → (IsOnCycle given i above → ⊥) → (MayStand given clause s.tree.is_interface above → ⊥) → Judges {A = Unit {0}} given (Err e) (part_in clause i s w ∷ [])
      of_wrong_kind e is no_cycle may_not = refused N9 e is (inr (above, found, inr (no_cycle, may_not, refl)))

      pub holds : (IsOnCycle given i above → ⊥) → MayStand given clause s.tree.is_interface above → Holds given (part_in clause i s w)
      holds no_cycle may r b = elim (broken_in r b) [
        | inl none ↦ absurd (some_or_none (sym found ∙ none.0))
        | inr k ↦
            let same : k.0 ≡ above = some_injective (sym k.1 ∙ found) in
            elim k.2 [
              | inl cycle ↦ no_cycle (subst (IsOnCycle given i) same cycle.0)
              | inr wrong ↦ wrong.1 (subst (MayStand given clause s.tree.is_interface) (sym same) may)
            ]
      ]
