-- What the rules of `try` take.
use Rattle.std.proofs.Common.{◌≡◌, ℕ, suc, Bool, true, false, List, [], ◌∷◌, ◌++◌, refl, sym, ap, append_assoc, arith}
use Rattle.std.proofs.lemmas.List.{append-nil}
use Rattle.std.specs.Prelude.{codes}
use Rattle.jesc_ast.specs.Lexemes.{Lexeme, word, sign}
use Rattle.jesc_ast.specs.Trees.{Expression, Statement, Catch, more_catches, catches_of}
use Rattle.jesc_ast.specs.Depth.{of_catch, of_catches}
use Rattle.jesc_ast.specs.Statements.{is_attempt, SpellsCatches, no_more_catches, one_more_catch, SpellsFinal, is_final_word, no_final_word}
use Rattle.jesc_jml_grammar.specs.declared.mark.Mark.TheVariants as m
use Rattle.jesc_jml_grammar.specs.Marks.{lexeme_mark}
use Rattle.jesc_jml_grammar.specs.Steps.{Parser, ◌>>◌, pure, expect}
use Rattle.jesc_jml_grammar.specs.Reading.{Parsed, Start}
use Rattle.jesc_jml_parser.specs.laws.SoundMarks.{marked}
use Rattle.jesc_jml_parser.specs.laws.SoundSteps.{Gives, gives_bind, gives_if, gives_so, took, TakesWhole}
use Rattle.jesc_jml_grammar.specs.ClauseFound.{Sized, no_items, with_more}
use Rattle.jesc_jml_parser.specs.laws.ClauseSoundLists.{TakenAs, TakenUntil, until_takes, IsRead, IsGreatest, read_more, read_first}
use Rattle.jesc_java_grammar.specs.declared.statement_mark.Slot.{Slot}
use Rattle.jesc_java_grammar.specs.Lexing.{is_word, next_is, take_if}
use Rattle.jesc_java_grammar.specs.StatementReading as spec
use Rattle.jesc_java_grammar.specs.StatementReading.{CatchHead}
use Rattle.jesc_java_parser.proofs.LexingSound.{took_this_word}
use Rattle.jesc_java_parser.proofs.PartSound.{IsPlainRead}
use Rattle.jesc_java_parser.proofs.BodySound.{TakesStatements, braced_takes}

-- ---- what is read

-- what stands before the body
record IsCatchHead (head : CatchHead) (u : List Lexeme) : Type 0 where
  first : Lexeme
  left : Lexeme
  part : List Lexeme
  right : Lexeme
  parts : u ≡ first ∷ left ∷ (part ++ head.class ∷ head.name ∷ right ∷ [])
  first_is : first ≡ word false "catch" first.span
  left_is : left ≡ sign false "(" left.span
  final : SpellsFinal head.is_final part
  class : lexeme_mark false head.class ≡ m.Name
  name : lexeme_mark false head.name ≡ m.Name
  right_is : right ≡ sign false ")" right.span

abbrev SpellsCatch : Catch → List Lexeme → Type 0
SpellsCatch c u = SpellsCatches (catches_of (c ∷ [])) u

abbrev IsCatch : ℕ → ℕ → Sized Catch → List Lexeme → Type 0
IsCatch room k c u = IsRead SpellsCatch of_catch room k u c.tree c.depth

-- one at least
record SpellsSomeCatches (cs : List Catch) (u : List Lexeme) : Type 0 where
  first : Catch
  others : List Catch
  made : cs ≡ first ∷ others
  spelled : SpellsCatches (catches_of cs) u

abbrev catches_measure : (Expression → ℕ) → ℕ → List Catch → ℕ
catches_measure f n cs = of_catches f n (catches_of cs)

abbrev AreCatches : ℕ → ℕ → Sized (List Catch) → List Lexeme → Type 0
AreCatches room k cs u = IsRead SpellsSomeCatches catches_measure room k u cs.tree cs.depth

catches_are_greatest : IsGreatest of_catch catches_measure
catches_are_greatest = record { none = λ f n. refl; more = λ f n x xs. refl }

catches_at_end : (cs : List Catch) (u : List Lexeme) (c : Catch) (v : List Lexeme) → SpellsCatches (catches_of cs) u → SpellsCatch c v
    → SpellsCatches (catches_of (cs ++ c ∷ [])) (u ++ v)
catches_at_end [] _ c v no_more_catches h = h
catches_at_end (_ ∷ cs) _ c v (one_more_catch r p q o m n is_final x y b _ t a u is_class is_name final is more) h =
    simp append_assoc (one_more_catch r p q o m n is_final x y b (catches_of (cs ++ c ∷ [])) t a (u ++ v) is_class is_name final is (catches_at_end cs u c v more h))

some_at_end : (cs : List Catch) (u : List Lexeme) (c : Catch) (v : List Lexeme) → SpellsSomeCatches cs u → SpellsCatch c v → SpellsSomeCatches (cs ++ c ∷ []) (u ++ v)
some_at_end cs u c v h g = record {
  first = h.first;
  others = h.others ++ c ∷ [];
  made = ap (λ (z : List Catch). z ++ c ∷ []) h.made;
  spelled = catches_at_end cs u c v h.spelled g;
}

module _ (limit room : ℕ) (expression : Bool → ℕ → ℕ → ℕ → Start → Parser Parsed)
    (reads : (note : Bool) (room : ℕ) → TakesWhole note room (expression note room)) (k : ℕ)
    (statement : Slot → Parser (Sized Statement)) (inside : TakesStatements room k statement) where
  final_word_takes : (ts : List Lexeme) → Gives ((take_if (is_word (codes "final") false) >> pure true) ts) (TakenAs SpellsFinal ts)
  final_word_takes ts =
      gives_bind _ _ (take_if (is_word (codes "final") false) ts) (took_this_word (codes "final") false ts) (λ f rest h.
      record { taken = f ∷ []; parts = h.at; is = rw h.is (is_final_word f.span) })

  optional_final_takes : (ts : List Lexeme) → Gives (spec.optional_final limit room expression k statement ts) (TakenAs SpellsFinal ts)
  unfolding spec.optional_final
  optional_final_takes ts =
      gives_if (next_is (is_word (codes "final") false) ts) _ (pure false) (TakenAs SpellsFinal ts) ts
      (λ e. final_word_takes ts)
      (λ e. record { taken = []; parts = refl; is = no_final_word })

  catch_head_takes : (ts : List Lexeme) → Gives (spec.catch_head limit room expression k statement ts) (TakenAs IsCatchHead ts)
  unfolding spec.catch_head
  catch_head_takes ts =
      gives_bind _ _ (take_if (is_word (codes "catch") false) ts) (took_this_word (codes "catch") false ts) (λ r t1 first.
      gives_bind _ _ (expect false m.LeftParen t1) (took false m.LeftParen t1) (λ p t2 left.
      gives_bind _ _ (spec.optional_final limit room expression k statement t2) (optional_final_takes t2) (λ is_final t3 h.
      gives_bind _ _ (expect false m.Name t3) (took false m.Name t3) (λ x t4 class.
      gives_bind _ _ (expect false m.Name t4) (took false m.Name t4) (λ y t5 name.
      gives_bind _ _ (expect false m.RightParen t5) (took false m.RightParen t5) (λ q rest right.
      record {
        taken = r ∷ p ∷ (h.taken ++ x ∷ y ∷ q ∷ []);
        parts = rw (first.at, left.at, h.parts, class.at, name.at, right.at) (sym (simp append_assoc));
        is = record {
          first = r;
          left = p;
          part = h.taken;
          right = q;
          parts = refl;
          first_is = first.is;
          left_is = marked false m.LeftParen p left.mark;
          final = h.is;
          class = class.mark;
          name = name.mark;
          right_is = marked false m.RightParen q right.mark;
        };
      }))))))

  catch_takes : (ts : List Lexeme) → Gives (spec.catch_ limit room expression k statement ts) (TakenAs (IsCatch room k) ts)
  unfolding spec.catch_
  catch_takes ts =
      gives_bind _ _ (spec.catch_head limit room expression k statement ts) (catch_head_takes ts) (λ head mid h.
      gives_bind _ _ (spec.braced limit room expression k statement mid) (braced_takes limit room expression reads k statement inside mid) (λ b rest g.
      let x = marked false m.Name head.class h.is.class in
      let y = marked false m.Name head.name h.is.name in
      let one : SpellsCatch (spec.catch_of head b).tree (h.is.first ∷ h.is.left ∷ (h.is.part ++ head.class ∷ head.name ∷ h.is.right ∷ (g.taken ++ []))) =
      rw (h.is.first_is, h.is.left_is, x.0, y.0, h.is.right_is)
      (one_more_catch h.is.first.span h.is.left.span h.is.right.span g.is.spelled.0 head.class.span head.name.span head.is_final head.class.text head.name.text b.tree (catches_of [])
      h.is.part g.taken [] x.1 y.1 h.is.final g.is.spelled.1 no_more_catches) in
      record {
        taken = h.is.first ∷ h.is.left ∷ (h.is.part ++ head.class ∷ head.name ∷ h.is.right ∷ g.taken);
        parts = rw (h.parts, h.is.parts, g.parts, append_assoc h.is.part (head.class ∷ head.name ∷ h.is.right ∷ []) (g.taken ++ rest)) (sym (simp append_assoc));
        is = record {
          spelled = rw append-nil at one;
          deep = g.is.deep;
          shallow = g.is.shallow;
          flat = g.is.flat;
        };
      }))

  catch_step : (found : Sized (List Catch)) (u ts : List Lexeme) → AreCatches room k found u
      → Gives (spec.catch_ limit room expression k statement ts)
      (λ c rest. TakenAs (λ (b : Sized (List Catch)) (v : List Lexeme). AreCatches room k b (u ++ v)) ts (with_more found c) rest)
  catch_step found u ts h =
      gives_so (TakenAs (IsCatch room k) ts) (λ c rest. TakenAs (λ (b : Sized (List Catch)) (v : List Lexeme). AreCatches room k b (u ++ v)) ts (with_more found c) rest)
      (spec.catch_ limit room expression k statement ts) (catch_takes ts)
      (λ c rest g. record {
        taken = g.taken;
        parts = g.parts;
        is = read_more of_catch catches_measure catches_are_greatest SpellsCatch SpellsSomeCatches room k found.tree c.tree u g.taken (u ++ g.taken) found.depth c.depth h g.is
            (some_at_end found.tree u c.tree g.taken h.spelled g.is.spelled);
      })

  some_catches_take : (ts : List Lexeme) → Gives (spec.some_catches limit room expression k statement ts) (TakenAs (AreCatches room k) ts)
  unfolding spec.some_catches spec.catches
  some_catches_take ts =
      gives_bind _ _ (spec.catch_ limit room expression k statement ts) (catch_takes ts) (λ c mid h.
      gives_so (TakenUntil (next_is (is_word (codes "catch") false)) (AreCatches room k) ts) (TakenAs (AreCatches room k) ts)
      (spec.catches limit room expression k statement (with_more no_items c) mid)
      (until_takes (next_is (is_word (codes "catch") false)) (spec.catch_ limit room expression k statement) with_more (AreCatches room k) (λ found u all g e. catch_step found u all g)
      limit (with_more no_items c) ts h.taken mid h.parts
      (read_first of_catch catches_measure catches_are_greatest SpellsCatch SpellsSomeCatches room k c.tree h.taken h.taken c.depth h.is
      (record { first = c.tree; others = []; made = refl; spelled = h.is.spelled })))
      (λ cs rest g. record { taken = g.taken; parts = g.parts; is = g.is }))

  pub attempt_takes : (ts : List Lexeme) → Gives (spec.attempt_ limit room expression k statement ts) (TakenAs (IsPlainRead (suc room) k) ts)
  unfolding spec.attempt_
  attempt_takes ts =
      gives_bind _ _ (take_if (is_word (codes "try") false) ts) (took_this_word (codes "try") false ts) (λ r t1 first.
      gives_bind _ _ (spec.braced limit room expression k statement t1) (braced_takes limit room expression reads k statement inside t1) (λ b t2 h.
      gives_bind _ _ (spec.some_catches limit room expression k statement t2) (some_catches_take t2) (λ cs rest g.
      let some = g.is.spelled in
      let whole : SpellsCatches (more_catches some.first (catches_of some.others)) g.taken = rw some.made at some.spelled in
      record {
        taken = r ∷ (h.taken ++ g.taken);
        parts = rw (first.at, h.parts, g.parts) (sym (append_assoc (r ∷ h.taken) g.taken rest));
        is = record {
          read = record {
            spelled = rw (first.is, some.made) (is_attempt r.span h.is.spelled.0 b.tree some.first (catches_of some.others) h.taken g.taken h.is.spelled.1 whole);
            deep = rw (h.is.deep, g.is.deep) refl;
            shallow = omega (arith, h.is.shallow, g.is.shallow);
            flat = omega (arith, h.is.flat, g.is.flat);
          };
          plain = record { no_loop = refl; no_branch = refl };
        };
      })))
