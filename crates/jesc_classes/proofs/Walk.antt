-- The walk over class headings, part by part.
use Rattle.std.proofs.Common.{◌≡◌, ℕ, zero, suc, ◌+◌, ◌<◌, ◌≤◌, List, [], ◌∷◌, ◌++◌, map, length, take, drop, get_or, Result, Ok, Err, inl, inr, refl, ap, sym, ◌∙◌, subst, arith, drop-cons}
use Rattle.std.specs.Result.{IsErrAnd}
use Rattle.std.proofs.lemmas.Result.{err_from_is_err_and}
use Rattle.std.proofs.lemmas.List.{get_or-map, length-map, take_more}
use Rattle.jesc_ast.specs.declared.word.Word.{Word}
use Rattle.jesc_classes.specs.declared.rule.RuleError.{RuleError}
use Rattle.jesc_classes.specs.declared.rule.RuleError.TheVariants.{Refused, Limit, OutOfMemory}
use Rattle.jesc_classes.specs.Answers.{Refusal, refusal}
use Rattle.jesc_classes.specs.Headings.{Source, Part, modifier, modifiers_from, heading, headings_from, AllHold, FirstBroken, Judges}

abbrev pub Answer : Type 0
Answer = Result (Unit {0}) RuleError

module _ (given : List Source) where
  all_both : (ps qs : List Part) → AllHold given ps → AllHold given qs → AllHold given (ps ++ qs)
  all_both [] qs h k = k
  all_both (p ∷ ps) qs h k = (h.0, all_both ps qs h.1 k)

  first_later : (ps qs : List Part) (r : Refusal) → AllHold given ps → FirstBroken given qs r → FirstBroken given (ps ++ qs) r
  first_later [] qs r h k = k
  first_later (p ∷ ps) qs r h k = inr (h.0, first_later ps qs r h.1 k)

  first_here : (ps qs : List Part) (r : Refusal) → FirstBroken given ps r → FirstBroken given (ps ++ qs) r
  first_here [] qs r h = absurd h
  first_here (p ∷ ps) qs r h = elim h [ inl b ↦ inl b | inr k ↦ inr (k.0, first_here ps qs r k.1) ]

  -- where no rule is broken in the first parts, the answer for the others is the answer for all
  pub goes_on : (ps qs : List Part) (r : Answer) → AllHold given ps → Judges given r qs → Judges given r (ps ++ qs)
  goes_on ps qs (Ok u) h k = all_both ps qs h k
  goes_on ps qs (Err (Refused number place word)) h k = first_later ps qs (refusal number place word) h k
  goes_on ps qs (Err (Limit number count)) h k = k
  goes_on ps qs (Err OutOfMemory) h k = tt

  -- a rule that is broken in the first parts is the first one broken in all
  pub stops : (ps qs : List Part) (r : Answer) (e : RuleError) → IsErrAnd r (λ y. y ≡ e) → Judges {A = Unit {0}} given (Err e) ps → Judges given r (ps ++ qs)
  stops ps qs r e h j =
      let p = err_from_is_err_and r h in
      subst (λ (s : Answer). Judges given s (ps ++ qs)) (sym (p.1 ∙ ap Err p.2)) (by e j)
    where
      by : (e : RuleError) → Judges {A = Unit {0}} given (Err e) ps → Judges {A = Unit {0}} given (Err e) (ps ++ qs)
      by (Refused number place word) k = first_here ps qs (refusal number place word) k
      by (Limit number count) k = k
      by OutOfMemory k = tt

  pub along : (r : Answer) (ps qs : List Part) → ps ≡ qs → Judges given r qs → Judges given r ps
  along r ps qs e h = subst (λ (l : List Part). Judges given r l) (sym e) h

-- ---- what is left of the walk at a part

pub drop_end : {A : Type 0} (xs : List A) (i : ℕ) → length xs ≤ i → drop i xs ≡ []
drop_end [] zero h = refl
drop_end [] (suc i) h = refl
drop_end (x ∷ xs) zero h = absurd (omega (arith, h))
drop_end (x ∷ xs) (suc i) h = drop_end xs i (omega (arith, h))

rest_at : {A : Type 0} (xs : List A) (i : ℕ) (x : A) → i < length xs → x ≡ get_or xs i x → drop i xs ≡ x ∷ drop (i + 1) xs
rest_at xs i x h e =
    let s : suc i ≡ i + 1 = omega arith in
    drop-cons xs i x h ∙ (λ j. sym e j ∷ drop (s j) xs)

pub word_at : (part : Word → Part) (words : List Word) (i : ℕ) (w : Word) → i < length words → w ≡ get_or words i w → map part (drop i words) ≡ (part w ∷ []) ++ map part (drop (i + 1) words)
word_at part words i w h e = ap (map part) (rest_at words i w h e)

pub modifier_at : (s : Source) (words : List Word) (i : ℕ) (w : Word) → i < length words → w ≡ get_or words i w
    → modifiers_from s (take i words) (drop i words) ≡ (modifier s (take i words) w ∷ []) ++ modifiers_from s (take (i + 1) words) (drop (i + 1) words)
modifier_at s words i w h e =
    let front : take (i + 1) words ≡ take i words ++ w ∷ [] = take_more words i w h ∙ ap (λ x. take i words ++ x ∷ []) (sym e) in
    ap (modifiers_from s (take i words)) (rest_at words i w h e) ∙ ap (λ before. modifier s (take i words) w ∷ modifiers_from s before (drop (i + 1) words)) (sym front)

pub heading_at : (given : List Source) (i : ℕ) (s : Source) → i < length given → s ≡ get_or given i s
    → headings_from (7 + i) (drop i given) ≡ heading (7 + i) s ++ headings_from (7 + (i + 1)) (drop (i + 1) given)
heading_at given i s h e =
    let n : (7 + i) + 1 ≡ 7 + (i + 1) = omega arith in
    ap (headings_from (7 + i)) (rest_at given i s h e) ∙ ap (λ k. heading (7 + i) s ++ headings_from k (drop (i + 1) given)) n

-- the code's list holds what is seen as the given one

pub seen_length : {A B : Type 0} (seen : A → B) (xs : List A) (given : List B) → map seen xs ≡ given → length given ≡ length xs
seen_length seen xs given m = omega (arith, length-map xs seen, ap length m)

pub seen_at : {A B : Type 0} (seen : A → B) (xs : List A) (given : List B) (i : ℕ) (x : A) → map seen xs ≡ given → i < length xs → x ≡ get_or xs i x → (i < length given) × (seen x ≡ get_or given i (seen x))
seen_at seen xs given i x m h e = (omega (arith, h, seen_length seen xs given m), ap seen e ∙ sym (get_or-map seen xs i x (seen x) h) ∙ ap (λ l. get_or l i (seen x)) m)
