-- A parser that is sound and complete gives the longest tree that the lexemes begin with, and refuses where none goes on.
use Rattle.std.proofs.Common.{◌≡◌, ◌⊎◌, ℕ, ◌+◌, ◌-◌, ◌≤◌, ◌<◌, Bool, true, false, List, [], ◌∷◌, ◌++◌, length, take, drop, Ok, Err, refl, sym, ap, ◌∙◌, subst, append_assoc, append-nil, arith, add-one, inl, inr}
use Rattle.std.proofs.lemmas.List.{take-append-drop, length-take, drop_all}
use Rattle.std.proofs.lemmas.Bool.{cases_lt, both_ways}
use Rattle.jesc_ast.specs.Lexemes.{Lexeme}
use Rattle.jesc_jml_grammar.specs.declared.fault.Fault.{Fault}
use Rattle.jesc_jml_grammar.specs.declared.fault.Fault.TheVariants.{Unexpected, Deep}
use Rattle.jesc_jml_grammar.specs.declared.note_word.NoteWord.{NoteWord}
use Rattle.jesc_jml_grammar.specs.declared.note_word.NoteWord.TheVariants as w
use Rattle.jesc_jml_grammar.specs.Steps.{Outcome, Parser, head}
use Rattle.jesc_jml_grammar.specs.laws.Refining.{ok_is, Refines, Answers, Stops}
use Rattle.jesc_jml_parser.specs.laws.Places.{split_at, next_lexeme, one_more}
use Rattle.jesc_jml_grammar.specs.ClauseMarks.{note_word, word_at}
use Rattle.jesc_jml_grammar.specs.ClauseFound.{Sized, sized}
use Rattle.jesc_jml_parser.specs.LongestAnswers.{IsLongest, IsRefused, IsStuck}

-- what is read spells the tree, which has the room
pub record IsTaken {T : Type 0} (spells : T → List Lexeme → Type 0) (depth nesting : T → ℕ) (room k : ℕ) (ts : List Lexeme) (t : T) (rest : List Lexeme) : Type 0 where
  pub taken : List Lexeme
  pub parts : ts ≡ taken ++ rest
  pub spelled : spells t taken
  pub shallow : depth t ≤ room
  pub flat : nesting t ≤ k

-- A parser with bounds on the turns, on the depth and on the nesting, of what stands behind so many lexemes. The next
-- lexeme's word tells whether a tree goes on.
pub record IsExact {T : Type 0} (before : ℕ) (spells : T → List Lexeme → Type 0) (fits : T → Type 0) (depth nesting : T → ℕ) (goes_on : T → NoteWord → Bool)
    (parse : ℕ → ℕ → ℕ → Parser (Sized T)) : Type 0 where
  pub refines : (same : Bool) (limit limit' : ℕ) → limit ≤ limit' → (room room' : ℕ) → room ≤ room' → (same ≡ true → room ≡ room') → (k k' : ℕ) → k ≤ k' → (same ≡ true → k ≡ k')
      → Refines same (parse limit room k) (parse limit' room' k')
  pub complete : (limit room k : ℕ) (t : T) (u rest : List Lexeme) → spells t u → depth t ≤ room → nesting t ≤ k → before + length u < limit → goes_on t (word_at rest) ≡ false
      → parse limit room k (u ++ rest) ≡ Ok (sized t (depth t), rest)
  pub sound : (limit room k : ℕ) (ts rest : List Lexeme) (t : Sized T) → parse limit room k ts ≡ Ok (t, rest) → IsTaken spells depth nesting room k ts t.tree rest
  pub ends : (t : T) → goes_on t w.Other ≡ false
  pub longer : (t : T) (u : List Lexeme) (x : Lexeme) → spells t u → goes_on t (note_word x) ≡ true → (t' : T) × (more : List Lexeme) × spells t' (u ++ x ∷ more)
  pub limited : (t : T) → fits t → (depth t ≤ 200) × (nesting t ≤ 3)
  pub fitting : (t : T) → depth t ≤ 200 → nesting t ≤ 3 → fits t

module _ {T : Type 0} (before : ℕ) (spells : T → List Lexeme → Type 0) (fits : T → Type 0) (depth nesting : T → ℕ) (goes_on : T → NoteWord → Bool)
    (parse : ℕ → ℕ → ℕ → Parser (Sized T)) (exact : IsExact before spells fits depth nesting goes_on parse) where
  -- ---- what is spelled is read

  abbrev answer : T → List Lexeme → Outcome (Sized T)
  answer t rest = Ok (sized t (depth t), rest)

  apart : (t : T) (rest : List Lexeme) (f : Fault) (r : Outcome (Sized T)) → r ≡ answer t rest → r ≡ Err f → ⊥
  apart t rest f r e g = cc

  read_alone : (limit room k : ℕ) (t : T) (u : List Lexeme) → spells t u → depth t ≤ room → nesting t ≤ k → before + length u < limit → parse limit room k u ≡ answer t []
  unfolding word_at
  read_alone limit room k t u s shallow flat few =
      ap (parse limit room k) (sym (append-nil u)) ∙ exact.complete limit room k t u [] s shallow flat few (exact.ends t)

  -- ---- no tree goes on where the parser was done or stopped

  none_longer : (limit room k : ℕ) (ts rest : List Lexeme) (p : Sized T) → parse limit room k ts ≡ Ok (p, rest) → (x : Lexeme) (more : List Lexeme) → head (x ∷ more) ≡ head rest
      → (t : T) → spells t (take (length ts - length rest) ts ++ x ∷ more) → ⊥
  none_longer limit room k ts rest p is x more same t s =
      let u : List Lexeme = take (length ts - length rest) ts ++ x ∷ more in
      let limit' : ℕ = limit + before + length u + 1 in
      let R : Answers (parse limit' (room + depth t) (k + nesting t)) ts p rest =
      (exact.refines false limit limit' (omega arith) room (room + depth t) (omega arith) (λ e. absurd cc) k (k + nesting t) (omega arith) (λ e. absurd cc)).oks ts rest p is in
      let at = split_at ts R.taken rest (length rest) R.parts refl in
      let further : parse limit' (room + depth t) (k + nesting t) u ≡ Ok (p, x ∷ more) =
      ap (λ (z : List Lexeme). parse limit' (room + depth t) (k + nesting t) (z ++ x ∷ more)) at.0 ∙ R.again (x ∷ more) same in
      let alone = read_alone limit' (room + depth t) (k + nesting t) t u s (omega arith) (omega arith) (omega arith) in
      let empty : [] ≡ x ∷ more = (ok_is (sized t (depth t)) p [] (x ∷ more) (sym alone ∙ further)).1 in
      absurd cc

  none_stopped : (fault : ℕ → Fault) (limit room k : ℕ) (ts : List Lexeme) (n : ℕ) → Stops fault (parse limit room k) ts n → (other : List Lexeme)
      → head other ≡ head (drop (length ts - n) ts) → (t : T) → spells t (take (length ts - n) ts ++ other) → depth t ≤ room → nesting t ≤ k
      → before + length (take (length ts - n) ts ++ other) < limit → ⊥
  none_stopped fault limit room k ts n S other same t s shallow flat few =
      let at = split_at ts S.taken S.rest n S.parts S.left in
      let stop : parse limit room k (take (length ts - n) ts ++ other) ≡ Err (fault (length other)) =
      ap (λ (z : List Lexeme). parse limit room k (z ++ other)) at.0 ∙ S.again other (same ∙ ap head at.1) in
      apart t [] (fault (length other)) (parse limit room k (take (length ts - n) ts ++ other))
      (read_alone limit room k t (take (length ts - n) ts ++ other) s shallow flat few) stop

  none_unexpected : (limit room k : ℕ) (ts : List Lexeme) (n : ℕ) → parse limit room k ts ≡ Err (Unexpected n) → (other : List Lexeme)
      → head other ≡ head (drop (length ts - n) ts) → (t : T) → spells t (take (length ts - n) ts ++ other) → ⊥
  none_unexpected limit room k ts n is other same t s =
      let limit' : ℕ = limit + before + length (take (length ts - n) ts ++ other) + 1 in
      none_stopped Unexpected limit' (room + depth t) (k + nesting t) ts n
      ((exact.refines false limit limit' (omega arith) room (room + depth t) (omega arith) (λ e. absurd cc) k (k + nesting t) (omega arith) (λ e. absurd cc)).errs ts n is)
      other same t s (omega arith) (omega arith) (omega arith)

  none_deep : (limit room k : ℕ) (ts : List Lexeme) (n : ℕ) → parse limit room k ts ≡ Err (Deep n) → (other : List Lexeme)
      → head other ≡ head (drop (length ts - n) ts) → (t : T) → spells t (take (length ts - n) ts ++ other) → depth t ≤ room → nesting t ≤ k → ⊥
  none_deep limit room k ts n is other same t s shallow flat =
      let limit' : ℕ = limit + before + length (take (length ts - n) ts ++ other) + 1 in
      none_stopped Deep limit' room k ts n
      ((exact.refines true limit limit' (omega arith) room room (omega arith) (λ e. refl) k k (omega arith) (λ e. refl)).deeps refl ts n is)
      other same t s shallow flat (omega arith)

  -- ---- one tree

  -- lexemes spell one tree at most
  pub unique : (t t' : T) (u : List Lexeme) → spells t u → spells t' u → t ≡ t'
  unique t t' u s s' =
      let first = read_alone (before + length u + 1) (depth t + depth t') (nesting t + nesting t') t u s (omega arith) (omega arith) (omega arith) in
      let second = read_alone (before + length u + 1) (depth t + depth t') (nesting t + nesting t') t' u s' (omega arith) (omega arith) (omega arith) in
      ap (λ (p : Sized T). p.tree) (ok_is (sized t (depth t)) (sized t' (depth t')) [] [] (sym first ∙ second)).0

  -- ---- refusals

  at_lexeme : (Allowed : T → Type 0) (ts : List Lexeme) (at : ℕ)
      → ((other : List Lexeme) → head other ≡ head (drop at ts) → (t : T) → spells t (take at ts ++ other) → Allowed t → ⊥)
      → at < length ts → (t : T) (more : List Lexeme) → spells t (take (at + 1) ts ++ more) → Allowed t → ⊥
  at_lexeme Allowed ts at none lt t more s allowed =
      let x = one_more ts more at lt in
      none (x.0 ∷ more) x.1 t (subst (spells t) x.2 s) allowed

  at_end : (Allowed : T → Type 0) (ts : List Lexeme) (at : ℕ)
      → ((other : List Lexeme) → head other ≡ head (drop at ts) → (t : T) → spells t (take at ts ++ other) → Allowed t → ⊥)
      → (t : T) → spells t ts → Allowed t → ⊥
  at_end Allowed ts at none t s allowed = none (drop at ts) refl t (subst (spells t) (sym (take-append-drop at ts)) s) allowed

  pub unexpected : (limit room k : ℕ) (ts : List Lexeme) (n : ℕ) → parse limit room k ts ≡ Err (Unexpected n) → IsRefused spells ts (length ts - n)
  unexpected limit room k ts n is =
      let none : (other : List Lexeme) → head other ≡ head (drop (length ts - n) ts) → (t : T) → spells t (take (length ts - n) ts ++ other) → Unit {0} → ⊥ =
      λ other same t s free. none_unexpected limit room k ts n is other same t s in
      record {
        within = omega arith;
        lexeme = λ lt b. at_lexeme (λ t. Unit {0}) ts (length ts - n) none lt b.0 b.1 b.2 tt;
        end = λ at t s. at_end (λ t. Unit {0}) ts (length ts - n) none t s tt;
      }

  pub deep : (limit : ℕ) (ts : List Lexeme) (n : ℕ) → parse limit 200 3 ts ≡ Err (Deep n) → IsStuck spells fits ts (length ts - n)
  deep limit ts n is =
      let none : (other : List Lexeme) → head other ≡ head (drop (length ts - n) ts) → (t : T) → spells t (take (length ts - n) ts ++ other) → fits t → ⊥ =
      λ other same t s allowed. let within = exact.limited t allowed in none_deep limit 200 3 ts n is other same t s within.0 within.1 in
      record {
        within = omega arith;
        lexeme = λ lt b. at_lexeme fits ts (length ts - n) none lt b.0 b.1 b.2 b.3;
        end = λ at t s allowed. at_end fits ts (length ts - n) none t s allowed;
      }

  -- ---- what is read

  pub found : (limit : ℕ) (ts rest : List Lexeme) (p : Sized T) → parse limit 200 3 ts ≡ Ok (p, rest) → IsLongest spells fits ts p.tree (length ts - length rest)
  found limit ts rest p is =
      let S = exact.sound limit 200 3 ts rest p is in
      let at = split_at ts S.taken rest (length rest) S.parts refl in
      record {
        within = omega arith;
        spelled = subst (spells p.tree) (sym at.0) S.spelled;
        limited = exact.fitting p.tree S.shallow S.flat;
        longest = λ lt b.
            let x = one_more ts b.1 (length ts - length rest) lt in
            none_longer limit 200 3 ts rest p is x.0 b.1 (x.1 ∙ ap head at.1) b.0 (subst (spells b.0) x.2 b.2);
      }

  longer_than : (ts : List Lexeme) (t : T) (n : ℕ) → IsLongest spells fits ts t n → goes_on t (word_at (drop n ts)) ≡ true → ⊥
  unfolding word_at
  longer_than ts t n is goes = by (cases_lt n (length ts))
    where
      by : (n < length ts) ⊎ (length ts ≤ n) → ⊥
      by (inl lt) =
          let next = next_lexeme ts n lt in
          let there : goes_on t (note_word next.0) ≡ true = subst (λ (z : List Lexeme). goes_on t (word_at z) ≡ true) next.2 goes in
          let more = exact.longer t (take n ts) next.0 is.spelled there in
          let same : take n ts ++ next.0 ∷ more.1 ≡ take (n + 1) ts ++ more.1 = sym (rw (add-one, next.3) (append_assoc (take n ts) (next.0 ∷ []) more.1)) in
          is.longest lt (more.0, more.1, subst (spells more.0) same more.2)
      by (inr le) =
          both_ways (goes_on t w.Other) (exact.ends t) (subst (λ (z : List Lexeme). goes_on t (word_at z) ≡ true) (drop_all n ts le) goes)

  ends_there : (ts : List Lexeme) (t : T) (n : ℕ) → IsLongest spells fits ts t n → (b : Bool) → goes_on t (word_at (drop n ts)) ≡ b → b ≡ false
  ends_there ts t n is false goes = refl
  ends_there ts t n is true goes = absurd (longer_than ts t n is goes)

  pub only : (limit : ℕ) (ts : List Lexeme) (t : T) (n : ℕ) → before + length ts < limit → IsLongest spells fits ts t n → parse limit 200 3 ts ≡ Ok (sized t (depth t), drop n ts)
  only limit ts t n few is =
      let within = exact.limited t is.limited in
      ap (parse limit 200 3) (sym (take-append-drop n ts))
      ∙ exact.complete limit 200 3 t (take n ts) (drop n ts) is.spelled within.0 within.1 (omega (arith, length-take n ts))
      (ends_there ts t n is (goes_on t (word_at (drop n ts))) refl)
