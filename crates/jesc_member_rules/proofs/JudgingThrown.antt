-- A name behind `throws`.
use Rattle.std.proofs.Common.{◌≡◌, ℕ, ◌<◌, Bool, true, false, List, length, get_or, Option, Some, None, inl, inr, refl, ap, sym, ◌∙◌, subst, arith, true≢false, not, if◌then◌else◌}
use Rattle.jesc_ast.specs.Lines.{place_at}
use Rattle.jesc_ast.specs.declared.word.Word.{Word}
use Rattle.jesc_classes.specs.declared.rule.Rule.{Rule}
use Rattle.jesc_classes.specs.declared.rule.Rule.TheVariants.{Y1}
use Rattle.jesc_classes.specs.Headings.{Source, class_named, graph_of}
use Rattle.jesc_classes.specs.laws.Graphs.{class_within, graph_length}
use Rattle.jesc_member_rules.specs.Judging.{Decides}
use Rattle.jesc_member_rules.specs.Members.{thrown, IsThrowable}
use Rattle.jesc_member_rules.specs.Throwables.{AreThrowables}
use Rattle.jesc_member_rules.proofs.JudgingWalk.{decides_if}

some_same : {x y : ℕ} → Some x ≡ Some y → x ≡ y
some_same e = cc

some_not_none : {x : ℕ} → Some x ≡ None → ⊥
some_not_none e = cc

not_true : (b : Bool) → not b ≡ true → b ≡ false
not_true true e = cc
not_true false e = refl

not_false : (b : Bool) → not b ≡ false → b ≡ true
not_false true e = refl
not_false false e = cc

pub known : (given inside : List Source) (name : List ℕ) (w : Word) (class : ℕ) → inside ≡ given → name ≡ w.text → class_named inside name ≡ Some class → class_named given w.text ≡ Some class
known given inside name w class same text found = ap (λ (l : List Source). class_named l w.text) (sym same) ∙ ap (class_named inside) (sym text) ∙ found

pub within : (given : List Source) (name : List ℕ) (class : ℕ) (are : List Bool) → AreThrowables (graph_of given) are → class_named given name ≡ Some class → class < length are
within given name class are throwable found = omega (arith, throwable.count, graph_length given, class_within given name class found)

-- the class is known, and the table tells whether it may be thrown
pub throws : (given : List Source) (s : Source) (w : Word) (class : ℕ) (are : List Bool) (o : Option Rule) → AreThrowables (graph_of given) are → class_named given w.text ≡ Some class
    → o ≡ (if not (get_or are class false) then Some Y1 else None) → Decides given (thrown s w) (place_at s.lines w.span) w.text o
throws given s w class are o throwable found is =
    let low = within given w.text class are throwable found in
    let each = throwable.each class (omega (arith, low, throwable.count)) in
    decides_if given (thrown s w) (place_at s.lines w.span) w.text Y1 (not (get_or are class false)) o is
    (λ e. inr (class, found, (λ may. true≢false (sym (each.1 may) ∙ not_true (get_or are class false) e)), refl))
    (λ e r b. elim b [
      | inl k ↦ some_not_none (sym found ∙ k.0)
      | inr k ↦
          let same : class ≡ k.0 = some_same (sym found ∙ k.1) in
          k.2 (subst (IsThrowable given) same (each.0 (not_false (get_or are class false) e)))
    ])
