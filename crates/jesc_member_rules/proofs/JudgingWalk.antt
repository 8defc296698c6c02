-- The walk over members, part by part.
use Rattle.std.proofs.Common.{◌≡◌, ℕ, zero, suc, ◌+◌, ◌<◌, ◌≤◌, Bool, true, false, List, [], ◌∷◌, ◌++◌, map, length, take, drop, get_or, Option, Some, None, Result, Ok, Err, inl, inr, refl, ap, sym, ◌∙◌, subst, arith, drop-cons, if◌then◌else◌}
use Rattle.std.specs.Result.{IsErrAnd}
use Rattle.std.proofs.lemmas.Result.{err_from_is_err_and}
use Rattle.std.proofs.lemmas.List.{take_more}
use Rattle.jesc_text.specs.declared.place.Place.{Place}
use Rattle.jesc_ast.specs.declared.word.Word.{Word}
use Rattle.jesc_classes.specs.declared.rule.Rule.{Rule}
use Rattle.jesc_classes.specs.declared.rule.RuleError.{RuleError}
use Rattle.jesc_classes.specs.declared.rule.RuleError.TheVariants.{Refused, Limit, OutOfMemory}
use Rattle.jesc_classes.specs.Answers.{Refusal, refusal}
use Rattle.jesc_classes.specs.Headings.{Source}
use Rattle.jesc_member_rules.specs.Judging.{Decides}
use Rattle.jesc_member_rules.specs.Members.{Part, modifier, modifiers_from, AllHold, Breaks, FirstBroken, Holds, Judges, Else}
use Rattle.jesc_member_rules.specs.Modifiers.{Bearer}

abbrev pub Answer : Type 0
Answer = Result (Unit {0}) RuleError

module _ (given : List Source) where
  all_both : (ps qs : List Part) → AllHold given ps → AllHold given qs → AllHold given (ps ++ qs)
  all_both [] qs h k = k
  all_both (p ∷ ps) qs h k = (h.0, all_both ps qs h.1 k)

  first_later : (ps qs : List Part) (r : Refusal) → AllHold given ps → FirstBroken given qs r → FirstBroken given (ps ++ qs) r
  first_later [] qs r h k = k
  first_later (p ∷ ps) qs r h k = inr (h.0, first_later ps qs r h.1 k)

  first_here : (ps qs : List Part) (r : Refusal) → FirstBroken given ps r → FirstBroken given (ps ++ qs) r
  first_here [] qs r h = absurd h
  first_here (p ∷ ps) qs r h = elim h [ inl b ↦ inl b | inr k ↦ inr (k.0, first_here ps qs r k.1) ]

  -- where no rule is broken in the first parts, the answer for the others is the answer for all
  pub goes_on : {A : Type 0} (ps qs : List Part) (r : Result A RuleError) → AllHold given ps → Judges given r qs → Judges given r (ps ++ qs)
  goes_on ps qs (Ok u) h k = all_both ps qs h k
  goes_on ps qs (Err (Refused number place word)) h k = first_later ps qs (refusal number place word) h k
  goes_on ps qs (Err (Limit number count)) h k = k
  goes_on ps qs (Err OutOfMemory) h k = tt

  -- a rule that is broken in the first parts is the first one broken in all
  pub stops : {A : Type 0} (ps qs : List Part) (r : Result A RuleError) (e : RuleError) → IsErrAnd r (λ y. y ≡ e) → Judges {A = Unit {0}} given (Err e) ps → Judges given r (ps ++ qs)
  stops {A} ps qs r e h j =
      let p = err_from_is_err_and r h in
      subst (λ (s : Result A RuleError). Judges given s (ps ++ qs)) (sym (p.1 ∙ ap Err p.2)) (by e j)
    where
      by : (e : RuleError) → Judges {A = Unit {0}} given (Err e) ps → Judges {A = A} given (Err e) (ps ++ qs)
      by (Refused number place word) k = first_here ps qs (refusal number place word) k
      by (Limit number count) k = k
      by OutOfMemory k = tt

  -- the error that a call gave is the answer
  pub passes : {A : Type 0} (ps : List Part) (r : Result A RuleError) (e : RuleError) → IsErrAnd r (λ y. y ≡ e) → Judges {A = Unit {0}} given (Err e) ps → Judges given r ps
  passes {A} ps r e h j =
      let p = err_from_is_err_and r h in
      subst (λ (s : Result A RuleError). Judges given s ps) (sym (p.1 ∙ ap Err p.2)) (by e j)
    where
      by : (e : RuleError) → Judges {A = Unit {0}} given (Err e) ps → Judges {A = A} given (Err e) ps
      by (Refused number place word) k = k
      by (Limit number count) k = k
      by OutOfMemory k = tt

  pub along : {A : Type 0} (r : Result A RuleError) (ps qs : List Part) → ps ≡ qs → Judges given r qs → Judges given r ps
  along r ps qs e h = subst (λ (l : List Part). Judges given r l) (sym e) h

  -- ---- one part

  pub broken : (p : Part) (rule : Rule) (place : Place) (text : List ℕ) (e : RuleError) → e ≡ Refused rule place text → Breaks given p (refusal rule place text) → Judges {A = Unit {0}} given (Err e) (p ∷ [])
  broken p rule place text e is b = subst (λ (x : RuleError). Judges {A = Unit {0}} given (Err x) (p ∷ [])) (sym is) (inl b)

  -- the rule is broken exactly where the test says so
  pub decides_if : (p : Part) (place : Place) (text : List ℕ) (rule : Rule) (b : Bool) (o : Option Rule) → o ≡ (if b then Some rule else None) → (b ≡ true → Breaks given p (refusal rule place text)) → (b ≡ false → Holds given p) → Decides given p place text o
  decides_if p place text rule b o is when unless = subst (λ (x : Option Rule). Decides given p place text x) (sym is) (by b refl)
    where
      by : (c : Bool) → b ≡ c → Decides given p place text (if c then Some rule else None)
      by true e = when e
      by false e = unless e

-- ---- the first of several rules

pub else_here : {P : Type 0} (here : Refusal) (rest : Type 0) → P → Else P here here rest
else_here here rest p = inl (p, refl)

pub else_later : {P : Type 0} (here r : Refusal) (rest : Type 0) → (P → ⊥) → rest → Else P here r rest
else_later here r rest never k = inr (never, k)

pub else_none : {P : Type 0} (here r : Refusal) (rest : Type 0) → (P → ⊥) → (rest → ⊥) → Else P here r rest → ⊥
else_none here r rest first later e = elim e [ inl k ↦ first k.0 | inr k ↦ later k.1 ]

-- ---- what is left of the walk at a part

pub drop_end : {A : Type 0} (xs : List A) (i : ℕ) → length xs ≤ i → drop i xs ≡ []
drop_end [] zero h = refl
drop_end [] (suc i) h = refl
drop_end (x ∷ xs) zero h = absurd (omega (arith, h))
drop_end (x ∷ xs) (suc i) h = drop_end xs i (omega (arith, h))

pub rest_at : {A : Type 0} (xs : List A) (i : ℕ) (x : A) → i < length xs → x ≡ get_or xs i x → drop i xs ≡ x ∷ drop (i + 1) xs
rest_at xs i x h e =
    let s : suc i ≡ i + 1 = omega arith in
    drop-cons xs i x h ∙ (λ j. sym e j ∷ drop (s j) xs)

pub word_at : (part : Word → Part) (words : List Word) (i : ℕ) (w : Word) → i < length words → w ≡ get_or words i w → map part (drop i words) ≡ (part w ∷ []) ++ map part (drop (i + 1) words)
word_at part words i w h e = ap (map part) (rest_at words i w h e)

pub front_at : {A : Type 0} (xs : List A) (i : ℕ) (x : A) → i < length xs → x ≡ get_or xs i x → take (i + 1) xs ≡ take i xs ++ x ∷ []
front_at xs i x h e = take_more xs i x h ∙ ap (λ y. take i xs ++ y ∷ []) (sym e)

pub modifier_at : (s : Source) (on : Bearer) (words : List Word) (i : ℕ) (w : Word) → i < length words → w ≡ get_or words i w
    → modifiers_from s on (take i words) (drop i words) ≡ (modifier s on (take i words) w ∷ []) ++ modifiers_from s on (take (i + 1) words) (drop (i + 1) words)
modifier_at s on words i w h e =
    ap (modifiers_from s on (take i words)) (rest_at words i w h e) ∙ ap (λ before. modifier s on (take i words) w ∷ modifiers_from s on before (drop (i + 1) words)) (sym (front_at words i w h e))
