-- What the rules of clauses take.
use Rattle.std.proofs.Common.{◌≡◌, ℕ, true, Option, List, [], ◌∷◌, ◌++◌, refl, sym, ◌∙◌, append_assoc, arith}
use Rattle.std.proofs.lemmas.List.{append-nil}
use Rattle.std.proofs.lemmas.List.Folds.{list_all-append}
use Rattle.std.specs.Prelude.{IsTrue, codes}
use Rattle.std.specs.List.{list_all}
use Rattle.jesc_text.specs.declared.place.Span.{Span}
use Rattle.jesc_lexer.specs.declared.token.TokenKind.TheVariants as kinds
use Rattle.jesc_ast.specs.declared.word.Word.{Word}
use Rattle.jesc_ast.specs.Lexemes.{Lexeme, word, sign, chosen_word}
use Rattle.jesc_ast.specs.Words.{is_one_of}
use Rattle.jesc_ast.specs.Trees.{Expression, Clause}
use Rattle.jesc_ast.specs.SpecTrees.{Promise, promises}
use Rattle.jesc_ast.specs.Depth.{depth, nesting, of_option, of_clauses, of_spec_clause, of_spec_clauses}
use Rattle.jesc_ast.specs.Statements.{SpellsOption, is_missing, is_there, SpellsClauses, no_clauses, more_clauses}
use Rattle.jesc_ast.specs.Specifications.{SpellsOptionalName, missing_name, given_name, SpellsSpecClause, is_ensures, is_assignable, is_signals, is_signals_nothing, is_signals_only, SpellsSpecClauses, no_spec_clauses, more_spec_clauses, SpellsDemands}
use Rattle.jesc_jml_grammar.specs.declared.mark.Mark.TheVariants as m
use Rattle.jesc_jml_grammar.specs.declared.note_word.NoteWord.{NoteWord}
use Rattle.jesc_jml_grammar.specs.declared.note_word.NoteWord.TheVariants as w
use Rattle.jesc_jml_grammar.specs.Marks.{lexeme_mark}
use Rattle.jesc_jml_grammar.specs.Steps.{Parser, mark_at, same_mark, expect}
use Rattle.jesc_jml_grammar.specs.Reading.{Parsed, Start, at_first}
use Rattle.jesc_jml_grammar.specs.ClauseMarks.{texts, note_word, same_word, word_at, expect_word, at_word, may_begin_clause}
use Rattle.jesc_jml_grammar.specs.ClauseReading as spec
use Rattle.jesc_jml_grammar.specs.ClauseReading.{Sized, Ended, with_ended, none_behind}
use Rattle.jesc_jml_parser.specs.laws.SoundMarks.{marked}
use Rattle.jesc_jml_parser.specs.laws.SoundSteps.{Gives, gives_bind, gives_if, gives_so, took}
use Rattle.jesc_jml_parser.specs.laws.ClauseSoundMarks.{noted, noted_so, word_of_promise}
use Rattle.jesc_jml_parser.specs.laws.ClauseSoundLists.{end_of, end_of_both, took_word, TakenAs, TakenUntil, until_takes, IsRead, IsGreatest, read_more, read_none, names_take}
use Rattle.jesc_jml_parser.specs.laws.ClauseSoundStores.{TakesExpressions, stores_take}

-- ---- what is read

-- with the span of the last lexeme
pub record IsEndedRead {A : Type 0} (spells : A → List Lexeme → Type 0) (measure : (Expression → ℕ) → ℕ → A → ℕ) (room k : ℕ) (a : Ended A) (u : List Lexeme)
    : Type 0 where
  pub read : IsRead spells measure room k u a.tree a.depth
  pub last : (s : Span) → end_of s u ≡ a.last

-- a list behind what ends with this span
pub record AreEndedRead {A : Type 0} (s : Span) (spells : List A → List Lexeme → Type 0) (measure : (Expression → ℕ) → ℕ → List A → ℕ) (room k : ℕ)
    (a : Ended (List A)) (u : List Lexeme) : Type 0 where
  pub read : IsRead spells measure room k u a.tree a.depth
  pub last : end_of s u ≡ a.last

abbrev pub clause_measure : (Expression → ℕ) → ℕ → Clause → ℕ
clause_measure f n c = f c.e

-- one clause that begins with a text of the word
abbrev pub SpellsOneClause : NoteWord → Clause → List Lexeme → Type 0
SpellsOneClause wanted c u = SpellsClauses (texts wanted) (c ∷ []) u

abbrev pub IsClause : NoteWord → ℕ → ℕ → Ended Clause → List Lexeme → Type 0
IsClause wanted room k c u = IsEndedRead (SpellsOneClause wanted) clause_measure room k c u

pub record IsPromise (wanted : NoteWord) (room k : ℕ) (c : Ended Promise) (u : List Lexeme) : Type 0 where
  pub is : IsEndedRead SpellsSpecClause of_spec_clause room k c u
  pub word : word_of_promise c.tree ≡ wanted

abbrev pub AreDemands : Span → ℕ → ℕ → Ended (List Clause) → List Lexeme → Type 0
AreDemands s room k ds u = AreEndedRead s SpellsDemands of_clauses room k ds u

-- under the heading each of them may stand
pub record ArePromises (heading : NoteWord) (s : Span) (room k : ℕ) (ps : Ended (List Promise)) (u : List Lexeme) : Type 0 where
  pub are : AreEndedRead s SpellsSpecClauses of_spec_clauses room k ps u
  pub allowed : list_all (λ c. may_begin_clause heading (word_of_promise c)) ps.tree ≡ true

pub clauses_are_greatest : IsGreatest clause_measure of_clauses
clauses_are_greatest = record { none = λ f n. refl; more = λ f n x xs. refl }

promises_are_greatest : IsGreatest of_spec_clause of_spec_clauses
promises_are_greatest = record { none = λ f n. refl; more = λ f n x xs. refl }

-- ---- one more at the end

pub clauses_at_end : (words : List (List ℕ)) (cs : List Clause) (u : List Lexeme) (c : Clause) (v : List Lexeme) → SpellsClauses words cs u → SpellsClauses words (c ∷ []) v
    → SpellsClauses words (cs ++ c ∷ []) (u ++ v)
clauses_at_end words _ _ c v no_clauses h = h
clauses_at_end words _ _ c v (more_clauses s p x e cs t u one is more) h =
    simp append_assoc (more_clauses s p x e (cs ++ c ∷ []) t (u ++ v) one is (clauses_at_end words cs u c v more h))

promises_at_end : (cs : List Promise) (u : List Lexeme) (c : Promise) (v : List Lexeme) → SpellsSpecClauses cs u → SpellsSpecClause c v
    → SpellsSpecClauses (cs ++ c ∷ []) (u ++ v)
promises_at_end _ _ c v no_spec_clauses h =
    let one : SpellsSpecClauses (c ∷ []) (v ++ []) = more_spec_clauses c [] v [] h no_spec_clauses in
    rw append-nil at one
promises_at_end _ _ c v (more_spec_clauses d cs t u is more) h =
    simp append_assoc (more_spec_clauses d (cs ++ c ∷ []) t (u ++ v) is (promises_at_end cs u c v more h))

ensures_spelled : (c : Clause) (u : List Lexeme) → SpellsOneClause w.Ensures c u → SpellsSpecClause (promises c) u
ensures_spelled _ _ (more_clauses s p x e _ u _ one is no_clauses) = is_ensures s p x e u one is

-- behind `signals_only`
pub record IsClasses (c : Promise) (u : List Lexeme) : Type 0 where
  pub spelled : (s p : Span) → SpellsSpecClause c (word true "signals_only" s ∷ (u ++ sign true ";" p ∷ []))
  pub none : (f : Expression → ℕ) (n : ℕ) → of_spec_clause f n c ≡ 0
  pub word : word_of_promise c ≡ w.SignalsOnly

module _ (limit room : ℕ) (inner : ℕ → ℕ → Start → Parser Parsed) (reads : TakesExpressions room inner) (k : ℕ) where
  -- ---- clauses of a word and an expression

  clause_takes : (wanted : NoteWord) → ((x : Lexeme) → note_word x ≡ wanted → (x ≡ chosen_word true x.text x.span) × IsTrue (is_one_of (texts wanted) x.text))
      → (ts : List Lexeme) → Gives (spec.clause_of limit room inner k wanted ts) (TakenAs (IsClause wanted room k) ts)
  unfolding spec.clause_of
  clause_takes wanted at ts =
      gives_bind _ _ (expect_word wanted ts) (took_word wanted ts) (λ x mid h.
      gives_bind _ _ (inner k 1 at_first mid) (reads k mid) (λ e end g.
      gives_bind _ _ (expect true m.Semicolon end) (took true m.Semicolon end) (λ q rest close.
      let is = at x h.word in
      record {
        taken = x ∷ (g.taken ++ q ∷ []);
        parts = rw (h.at, g.parts, close.at) (sym (simp append_assoc));
        is = record {
          read = record {
            spelled = rw (is.0, marked true m.Semicolon q close.mark) (more_clauses x.span q.span x.text e.tree [] g.taken [] is.1 g.is.spelled no_clauses);
            deep = g.is.deep;
            shallow = g.is.shallow;
            flat = g.is.flat;
          };
          last = λ s. end_of_both x.span g.taken (q ∷ []);
        };
      })))

  ensures_takes : (ts : List Lexeme) → Gives (spec.ensures_clause limit room inner k ts) (TakenAs (IsPromise w.Ensures room k) ts)
  unfolding spec.ensures_clause
  ensures_takes ts =
      gives_bind _ _ (spec.clause_of limit room inner k w.Ensures ts) (clause_takes w.Ensures (noted w.Ensures) ts) (λ c rest h.
      record {
        taken = h.taken;
        parts = h.parts;
        is = record {
          is = record {
            read = record { spelled = ensures_spelled c.tree h.taken h.is.read.spelled; deep = h.is.read.deep; shallow = h.is.read.shallow; flat = h.is.read.flat };
            last = h.is.last;
          };
          word = refl;
        };
      })

  assignable_takes : (ts : List Lexeme) → Gives (spec.assignable_clause limit room inner k ts) (TakenAs (IsPromise w.Assignable room k) ts)
  unfolding spec.assignable_clause
  assignable_takes ts =
      gives_bind _ _ (expect_word w.Assignable ts) (took_word w.Assignable ts) (λ x mid h.
      gives_bind _ _ (spec.stores limit room inner k mid) (stores_take limit room inner reads k mid) (λ t end g.
      gives_bind _ _ (expect true m.Semicolon end) (took true m.Semicolon end) (λ q rest close.
      let is = noted w.Assignable x h.word in
      record {
        taken = x ∷ (g.taken ++ q ∷ []);
        parts = rw (h.at, g.parts, close.at) (sym (simp append_assoc));
        is = record {
          is = record {
            read = record {
              spelled = rw (is.0, marked true m.Semicolon q close.mark) (is_assignable x.span q.span x.text t.tree g.taken is.1 g.is.spelled);
              deep = g.is.deep;
              shallow = g.is.shallow;
              flat = g.is.flat;
            };
            last = λ s. end_of_both x.span g.taken (q ∷ []);
          };
          word = refl;
        };
      })))

  -- ---- exceptions

  optional_name_takes : (ts : List Lexeme) → Gives (spec.optional_name limit room inner k ts) (TakenAs (SpellsOptionalName true) ts)
  unfolding spec.optional_name
  optional_name_takes ts =
      gives_if (same_mark (mark_at true ts) m.Name) _ _ (TakenAs (SpellsOptionalName true) ts) ts
      (λ e.
      gives_bind _ _ (expect true m.Name ts) (took true m.Name ts) (λ x rest h.
      let at = marked true m.Name x h.mark in
      record { taken = x ∷ []; parts = h.at; is = rw at.0 (given_name x.span x.text at.1) }))
      (λ e. record { taken = []; parts = refl; is = missing_name })

  optional_takes : (ts : List Lexeme)
      → Gives (spec.optional_expression limit room inner k ts)
      (TakenAs (λ (e : Sized (Option Expression)) (u : List Lexeme). IsRead (SpellsOption true) of_option room k u e.tree e.depth) ts)
  unfolding spec.optional_expression
  optional_takes ts =
      gives_if (same_mark (mark_at true ts) m.Semicolon) _ _
      (TakenAs (λ (e : Sized (Option Expression)) (u : List Lexeme). IsRead (SpellsOption true) of_option room k u e.tree e.depth) ts) ts
      (λ e. record { taken = []; parts = refl; is = record { spelled = is_missing; deep = refl; shallow = omega arith; flat = omega arith } })
      (λ e.
      gives_bind _ _ (inner k 1 at_first ts) (reads k ts) (λ e rest g.
      record {
        taken = g.taken;
        parts = g.parts;
        is = record { spelled = is_there e.tree g.taken g.is.spelled; deep = g.is.deep; shallow = g.is.shallow; flat = g.is.flat };
      }))

  signals_behind_takes : (x p class : Lexeme) (n : Option Word) (u all ts : List Lexeme) → all ≡ x ∷ p ∷ class ∷ (u ++ ts) → note_word x ≡ w.Signals
      → lexeme_mark true p ≡ m.LeftParen → lexeme_mark true class ≡ m.Name → SpellsOptionalName true n u
      → Gives (spec.signals_behind limit room inner k x p class n ts) (TakenAs (IsPromise w.Signals room k) all)
  unfolding spec.signals_behind
  signals_behind_takes x p class n u all ts parts begun left named is_name =
      gives_bind _ _ (expect true m.RightParen ts) (took true m.RightParen ts) (λ r mid right.
      gives_bind _ _ (spec.optional_expression limit room inner k mid) (optional_takes mid) (λ e end g.
      gives_bind _ _ (expect true m.Semicolon end) (took true m.Semicolon end) (λ q rest close.
      let is = noted w.Signals x begun in
      let at = marked true m.Name class named in
      record {
        taken = x ∷ p ∷ class ∷ (u ++ r ∷ (g.taken ++ q ∷ []));
        parts = rw (parts, right.at, g.parts, close.at) (sym (simp append_assoc));
        is = record {
          is = record {
            read = record {
              spelled = rw (is.0, marked true m.LeftParen p left, at.0, marked true m.RightParen r right.mark, marked true m.Semicolon q close.mark)
                  (is_signals x.span p.span class.span r.span q.span x.text class.text n e.tree u g.taken is.1 at.1 is_name g.is.spelled);
              deep = g.is.deep;
              shallow = g.is.shallow;
              flat = g.is.flat;
            };
            last = λ s. end_of_both class.span u (r ∷ (g.taken ++ q ∷ [])) ∙ end_of_both r.span g.taken (q ∷ []);
          };
          word = refl;
        };
      })))

  signals_takes : (ts : List Lexeme) → Gives (spec.signals_clause limit room inner k ts) (TakenAs (IsPromise w.Signals room k) ts)
  unfolding spec.signals_clause
  signals_takes ts =
      gives_bind _ _ (expect_word w.Signals ts) (took_word w.Signals ts) (λ x mid h.
      gives_bind _ _ (expect true m.LeftParen mid) (took true m.LeftParen mid) (λ p end left.
      gives_bind _ _ (expect true m.Name end) (took true m.Name end) (λ class more named.
      gives_bind _ _ (spec.optional_name limit room inner k more) (optional_name_takes more) (λ n rest g.
      signals_behind_takes x p class n g.taken ts rest (rw (h.at, left.at, named.at, g.parts) refl) h.word left.mark named.mark g.is))))

  no_classes_take : (ts : List Lexeme) → Gives (spec.no_classes limit room inner k ts) (TakenAs IsClasses ts)
  unfolding spec.no_classes
  no_classes_take ts =
      gives_bind _ _ (expect_word w.Nothing ts) (took_word w.Nothing ts) (λ n rest h.
      record {
        taken = n ∷ [];
        parts = h.at;
        is = record {
          spelled = λ s p. rw (noted_so kinds.Backslash (codes "\\nothing") n (noted w.Nothing n h.word)) (is_signals_nothing s n.span p);
          none = λ f n. refl;
          word = refl;
        };
      })

  some_classes_take : (ts : List Lexeme) → Gives (spec.some_classes limit room inner k ts) (TakenAs IsClasses ts)
  unfolding spec.some_classes
  some_classes_take ts =
      gives_bind _ _ (spec.names limit room inner k ts) (names_take limit room inner k ts) (λ ws rest h.
      record { taken = h.taken; parts = h.parts; is = record { spelled = λ s p. is_signals_only s p ws h.taken h.is; none = λ f n. refl; word = refl } })

  classes_take : (ts : List Lexeme) → Gives (spec.signaled_classes limit room inner k ts) (TakenAs IsClasses ts)
  unfolding spec.signaled_classes
  classes_take ts =
      gives_if (same_word (word_at ts) w.Nothing) _ _ (TakenAs IsClasses ts) ts (λ e. no_classes_take ts) (λ e. some_classes_take ts)

  signals_only_takes : (ts : List Lexeme) → Gives (spec.signals_only_clause limit room inner k ts) (TakenAs (IsPromise w.SignalsOnly room k) ts)
  unfolding spec.signals_only_clause
  signals_only_takes ts =
      gives_bind _ _ (expect_word w.SignalsOnly ts) (took_word w.SignalsOnly ts) (λ x mid h.
      gives_bind _ _ (spec.signaled_classes limit room inner k mid) (classes_take mid) (λ c end g.
      gives_bind _ _ (expect true m.Semicolon end) (took true m.Semicolon end) (λ q rest close.
      record {
        taken = x ∷ (g.taken ++ q ∷ []);
        parts = rw (h.at, g.parts, close.at) (sym (simp append_assoc));
        is = record {
          is = record {
            read = record {
              spelled = rw (noted_so kinds.Word (codes "signals_only") x (noted w.SignalsOnly x h.word), marked true m.Semicolon q close.mark) (g.is.spelled x.span q.span);
              deep = g.is.none depth 1;
              shallow = omega arith;
              flat = omega (arith, g.is.none nesting 0);
            };
            last = λ s. end_of_both x.span g.taken (q ∷ []);
          };
          word = g.is.word;
        };
      })))

  -- ---- lists of clauses

  spec_clause_by_takes : (found : NoteWord) (ts : List Lexeme) → Gives (spec.spec_clause_by limit room inner k found ts) (TakenAs (IsPromise found room k) ts)
  spec_clause_by_takes w.Ensures ts = ensures_takes ts
  spec_clause_by_takes w.Assignable ts = assignable_takes ts
  spec_clause_by_takes w.Signals ts = signals_takes ts
  spec_clause_by_takes w.SignalsOnly ts = signals_only_takes ts
  spec_clause_by_takes _ ts = tt

  spec_clause_takes : (ts : List Lexeme) → Gives (spec.spec_clause limit room inner k ts) (TakenAs (IsPromise (word_at ts) room k) ts)
  unfolding spec.spec_clause
  spec_clause_takes ts = spec_clause_by_takes (word_at ts) ts

  pub demands_take : (s : Span) (ts : List Lexeme) → Gives (spec.demands limit room inner k s ts) (TakenUntil (at_word w.Requires) (AreDemands s room k) ts)
  unfolding spec.demands
  demands_take s ts =
      until_takes (at_word w.Requires) (spec.clause_of limit room inner k w.Requires) with_ended (AreDemands s room k)
      (λ found u all h begins.
      gives_so _ (λ c rest. TakenAs (λ (b : Ended (List Clause)) (v : List Lexeme). AreDemands s room k b (u ++ v)) all (with_ended found c) rest)
      (spec.clause_of limit room inner k w.Requires all) (clause_takes w.Requires (noted w.Requires) all) (λ c rest g.
      record {
        taken = g.taken;
        parts = g.parts;
        is = record {
          read = read_more clause_measure of_clauses clauses_are_greatest (SpellsOneClause w.Requires) SpellsDemands room k found.tree c.tree u g.taken (u ++ g.taken)
              found.depth c.depth h.read g.is.read (clauses_at_end (texts w.Requires) found.tree u c.tree g.taken h.read.spelled g.is.read.spelled);
          last = end_of_both s u g.taken ∙ g.is.last (end_of s u);
        };
      }))
      limit (none_behind s) ts [] ts refl
      (record { read = read_none clause_measure of_clauses clauses_are_greatest (SpellsOneClause w.Requires) SpellsDemands room k no_clauses; last = refl })

  pub promises_take : (heading : NoteWord) (s : Span) (ts : List Lexeme)
      → Gives (spec.spec_clauses limit room inner k heading s ts) (TakenUntil (λ all. may_begin_clause heading (word_at all)) (ArePromises heading s room k) ts)
  unfolding spec.spec_clauses
  promises_take heading s ts =
      until_takes (λ all. may_begin_clause heading (word_at all)) (spec.spec_clause limit room inner k) with_ended (ArePromises heading s room k)
      (λ found u all h begins.
      gives_so _ (λ c rest. TakenAs (λ (b : Ended (List Promise)) (v : List Lexeme). ArePromises heading s room k b (u ++ v)) all (with_ended found c) rest)
      (spec.spec_clause limit room inner k all) (spec_clause_takes all) (λ c rest g.
      record {
        taken = g.taken;
        parts = g.parts;
        is = record {
          are = record {
            read = read_more of_spec_clause of_spec_clauses promises_are_greatest SpellsSpecClause SpellsSpecClauses room k found.tree c.tree u g.taken (u ++ g.taken)
                found.depth c.depth h.are.read g.is.is.read (promises_at_end found.tree u c.tree g.taken h.are.read.spelled g.is.is.read.spelled);
            last = end_of_both s u g.taken ∙ g.is.is.last (end_of s u);
          };
          allowed = list_all-append (λ c. may_begin_clause heading (word_of_promise c)) found.tree (c.tree ∷ []) ∙ rw (h.allowed, g.is.word, begins) refl;
        };
      }))
      limit (none_behind s) ts [] ts refl
      (record {
        are = record { read = read_none of_spec_clause of_spec_clauses promises_are_greatest SpellsSpecClause SpellsSpecClauses room k no_spec_clauses; last = refl };
        allowed = refl;
      })
