-- What the rules of statements take that begin with a word of their own and have no statement inside.
use Rattle.std.proofs.Common.{◌≡◌, ℕ, suc, ◌+◌, ◌-◌, Bool, true, false, List, [], ◌∷◌, ◌++◌, refl, sym, ap, append_assoc, arith}
use Rattle.std.specs.Prelude.{codes}
use Rattle.jesc_ast.specs.Lexemes.{Lexeme, word, sign}
use Rattle.jesc_ast.specs.Expressions.{SpellsType}
use Rattle.jesc_ast.specs.Statements.{is_return, is_throw, is_break, is_continue, is_empty, is_assertion, is_set, is_ghost_local}
use Rattle.jesc_jml_grammar.specs.declared.mark.Mark.TheVariants as m
use Rattle.jesc_jml_grammar.specs.Marks.{lexeme_mark}
use Rattle.jesc_jml_grammar.specs.Steps.{Parser, expect}
use Rattle.jesc_jml_grammar.specs.Reading.{Parsed, Start}
use Rattle.jesc_jml_parser.specs.laws.SoundMarks.{marked}
use Rattle.jesc_jml_parser.specs.laws.SoundSteps.{Gives, gives_bind, took, TakesWhole}
use Rattle.jesc_jml_parser.specs.laws.SoundCalls.{type_takes}
use Rattle.jesc_jml_parser.specs.laws.ClauseSoundLists.{TakenAs}
use Rattle.jesc_java_grammar.specs.Lexing.{is_sign, is_word, take_if}
use Rattle.jesc_java_grammar.specs.StatementReading as spec
use Rattle.jesc_java_grammar.specs.StatementReading.{GhostHead}
use Rattle.jesc_java_parser.proofs.LexingSound.{took_this_word, took_this_sign}
use Rattle.jesc_java_parser.proofs.PieceSound.{whole_takes}
use Rattle.jesc_java_parser.proofs.TargetSound.{target_takes}
use Rattle.jesc_java_parser.proofs.PartSound.{IsPlainRead, optional_value_takes}

-- the word, the type, the name and the equals sign of a ghost local
record IsGhostHead (head : GhostHead) (u : List Lexeme) : Type 0 where
  part : List Lexeme
  parts : u ≡ head.first ∷ (part ++ head.name ∷ head.equals ∷ [])
  first_is : head.first ≡ word true "ghost" head.first.span
  typed : SpellsType true head.ty part
  named : lexeme_mark true head.name ≡ m.Name
  equals_is : head.equals ≡ sign true "=" head.equals.span

module _ (limit room : ℕ) (expression : Bool → ℕ → ℕ → ℕ → Start → Parser Parsed)
    (reads : (note : Bool) (room : ℕ) → TakesWhole note room (expression note room)) (k : ℕ) where
  pub returned_takes : (ts : List Lexeme) → Gives (spec.returned limit room expression k ts) (TakenAs (IsPlainRead (suc room) k) ts)
  unfolding spec.returned
  returned_takes ts =
      gives_bind _ _ (take_if (is_word (codes "return") false) ts) (took_this_word (codes "return") false ts) (λ r mid first.
      gives_bind _ _ (spec.optional_value limit room expression k m.Semicolon mid) (optional_value_takes limit room expression reads k m.Semicolon mid) (λ e end h.
      gives_bind _ _ (expect false m.Semicolon end) (took false m.Semicolon end) (λ p rest close.
      record {
        taken = r ∷ (h.taken ++ p ∷ []);
        parts = rw (first.at, h.parts, close.at) (sym (simp append_assoc));
        is = record {
          read = record {
            spelled = rw (first.is, marked false m.Semicolon p close.mark) (is_return r.span p.span e.tree h.taken h.is.spelled);
            deep = ap (λ (n : ℕ). n + 1) h.is.deep;
            shallow = omega (arith, h.is.shallow);
            flat = omega (arith, h.is.flat);
          };
          plain = record { no_loop = refl; no_branch = refl };
        };
      })))

  pub thrown_takes : (ts : List Lexeme) → Gives (spec.thrown limit room expression k ts) (TakenAs (IsPlainRead (suc room) k) ts)
  unfolding spec.thrown
  thrown_takes ts =
      gives_bind _ _ (take_if (is_word (codes "throw") false) ts) (took_this_word (codes "throw") false ts) (λ r mid first.
      gives_bind _ _ (spec.whole limit room expression k false mid) (whole_takes limit room expression reads k false mid) (λ e end h.
      gives_bind _ _ (expect false m.Semicolon end) (took false m.Semicolon end) (λ p rest close.
      record {
        taken = r ∷ (h.taken ++ p ∷ []);
        parts = rw (first.at, h.parts, close.at) (sym (simp append_assoc));
        is = record {
          read = record {
            spelled = rw (first.is, marked false m.Semicolon p close.mark) (is_throw r.span p.span e.tree h.taken (e.strength, h.is.spelled));
            deep = ap (λ (n : ℕ). n + 1) h.is.deep;
            shallow = omega (arith, h.is.shallow);
            flat = omega (arith, h.is.flat);
          };
          plain = record { no_loop = refl; no_branch = refl };
        };
      })))

  pub broken_takes : (ts : List Lexeme) → Gives (spec.broken limit room expression k ts) (TakenAs (IsPlainRead (suc room) k) ts)
  unfolding spec.broken
  broken_takes ts =
      gives_bind _ _ (take_if (is_word (codes "break") false) ts) (took_this_word (codes "break") false ts) (λ r mid first.
      gives_bind _ _ (expect false m.Semicolon mid) (took false m.Semicolon mid) (λ p rest close.
      record {
        taken = r ∷ p ∷ [];
        parts = rw (first.at, close.at) refl;
        is = record {
          read = record {
            spelled = rw (first.is, marked false m.Semicolon p close.mark) (is_break r.span p.span);
            deep = refl;
            shallow = omega arith;
            flat = omega arith;
          };
          plain = record { no_loop = refl; no_branch = refl };
        };
      }))

  pub continued_takes : (ts : List Lexeme) → Gives (spec.continued limit room expression k ts) (TakenAs (IsPlainRead (suc room) k) ts)
  unfolding spec.continued
  continued_takes ts =
      gives_bind _ _ (take_if (is_word (codes "continue") false) ts) (took_this_word (codes "continue") false ts) (λ r mid first.
      gives_bind _ _ (expect false m.Semicolon mid) (took false m.Semicolon mid) (λ p rest close.
      record {
        taken = r ∷ p ∷ [];
        parts = rw (first.at, close.at) refl;
        is = record {
          read = record {
            spelled = rw (first.is, marked false m.Semicolon p close.mark) (is_continue r.span p.span);
            deep = refl;
            shallow = omega arith;
            flat = omega arith;
          };
          plain = record { no_loop = refl; no_branch = refl };
        };
      }))

  pub nothing_takes : (ts : List Lexeme) → Gives (spec.nothing limit room expression k ts) (TakenAs (IsPlainRead (suc room) k) ts)
  unfolding spec.nothing
  nothing_takes ts =
      gives_bind _ _ (expect false m.Semicolon ts) (took false m.Semicolon ts) (λ p rest close.
      record {
        taken = p ∷ [];
        parts = close.at;
        is = record {
          read = record { spelled = rw (marked false m.Semicolon p close.mark) (is_empty p.span); deep = refl; shallow = omega arith; flat = omega arith };
          plain = record { no_loop = refl; no_branch = refl };
        };
      })

  -- ---- statements of annotations

  pub asserted_takes : (ts : List Lexeme) → Gives (spec.asserted limit room expression k ts) (TakenAs (IsPlainRead (suc room) k) ts)
  unfolding spec.asserted
  asserted_takes ts =
      gives_bind _ _ (take_if (is_word (codes "assert") true) ts) (took_this_word (codes "assert") true ts) (λ r mid first.
      gives_bind _ _ (spec.whole limit room expression k true mid) (whole_takes limit room expression reads k true mid) (λ e end h.
      gives_bind _ _ (expect true m.Semicolon end) (took true m.Semicolon end) (λ p rest close.
      record {
        taken = r ∷ (h.taken ++ p ∷ []);
        parts = rw (first.at, h.parts, close.at) (sym (simp append_assoc));
        is = record {
          read = record {
            spelled = rw (first.is, marked true m.Semicolon p close.mark) (is_assertion r.span p.span e.tree h.taken (e.strength, h.is.spelled));
            deep = ap (λ (n : ℕ). n + 1) h.is.deep;
            shallow = omega (arith, h.is.shallow);
            flat = omega (arith, h.is.flat);
          };
          plain = record { no_loop = refl; no_branch = refl };
        };
      })))

  pub set_takes : (ts : List Lexeme) → Gives (spec.set_ limit room expression k ts) (TakenAs (IsPlainRead (suc room) k) ts)
  unfolding spec.set_
  set_takes ts =
      gives_bind _ _ (take_if (is_word (codes "set") true) ts) (took_this_word (codes "set") true ts) (λ r t1 first.
      gives_bind _ _ (spec.target limit room expression k true t1) (target_takes limit room expression reads k true t1) (λ a t2 h.
      gives_bind _ _ (take_if (is_sign (codes "=") true) t2) (took_this_sign (codes "=") true t2) (λ q t3 equals.
      gives_bind _ _ (spec.whole limit room expression k true t3) (whole_takes limit room expression reads k true t3) (λ e t4 g.
      gives_bind _ _ (expect true m.Semicolon t4) (took true m.Semicolon t4) (λ p rest close.
      record {
        taken = r ∷ (h.taken ++ q ∷ (g.taken ++ p ∷ []));
        parts = rw (first.at, h.parts, equals.at, g.parts, close.at) (sym (simp append_assoc));
        is = record {
          read = record {
            spelled = rw (first.is, equals.is, marked true m.Semicolon p close.mark)
                (is_set r.span q.span p.span a.tree e.tree h.taken g.taken (a.strength, h.is.is.spelled) h.is.target (e.strength, g.is.spelled));
            deep = rw (h.is.is.deep, g.is.deep) refl;
            shallow = omega (arith, h.is.is.shallow, g.is.shallow);
            flat = omega (arith, h.is.is.flat, g.is.flat);
          };
          plain = record { no_loop = refl; no_branch = refl };
        };
      })))))

  ghost_head_takes : (ts : List Lexeme) → Gives (spec.ghost_head limit room expression k ts) (TakenAs IsGhostHead ts)
  unfolding spec.ghost_head
  ghost_head_takes ts =
      gives_bind _ _ (take_if (is_word (codes "ghost") true) ts) (took_this_word (codes "ghost") true ts) (λ r t1 first.
      gives_bind _ _ (spec.type_inside limit room expression k true t1) (type_takes true limit (room - 1) (expression true (room - 1)) (reads true (room - 1)) k t1) (λ t t2 h.
      gives_bind _ _ (expect true m.Name t2) (took true m.Name t2) (λ x t3 named.
      gives_bind _ _ (take_if (is_sign (codes "=") true) t3) (took_this_sign (codes "=") true t3) (λ q rest equals.
      record {
        taken = r ∷ (h.taken ++ x ∷ q ∷ []);
        parts = rw (first.at, h.parts, named.at, equals.at) (sym (simp append_assoc));
        is = record { part = h.taken; parts = refl; first_is = first.is; typed = h.spelled; named = named.mark; equals_is = equals.is };
      }))))

  pub ghost_takes : (ts : List Lexeme) → Gives (spec.ghost_ limit room expression k ts) (TakenAs (IsPlainRead (suc room) k) ts)
  unfolding spec.ghost_
  ghost_takes ts =
      gives_bind _ _ (spec.ghost_head limit room expression k ts) (ghost_head_takes ts) (λ head t1 h.
      gives_bind _ _ (spec.whole limit room expression k true t1) (whole_takes limit room expression reads k true t1) (λ e t2 g.
      gives_bind _ _ (expect true m.Semicolon t2) (took true m.Semicolon t2) (λ p rest close.
      let at = marked true m.Name head.name h.is.named in
      record {
        taken = head.first ∷ (h.is.part ++ head.name ∷ head.equals ∷ (g.taken ++ p ∷ []));
        parts = rw (h.parts, h.is.parts, g.parts, close.at, append_assoc h.is.part (head.name ∷ head.equals ∷ []) (g.taken ++ p ∷ rest)) (sym (simp append_assoc));
        is = record {
          read = record {
            spelled = rw (h.is.first_is, at.0, h.is.equals_is, marked true m.Semicolon p close.mark)
                (is_ghost_local head.first.span head.name.span head.equals.span p.span head.ty head.name.text e.tree h.is.part g.taken h.is.typed at.1 (e.strength, g.is.spelled));
            deep = ap (λ (n : ℕ). n + 1) g.is.deep;
            shallow = omega (arith, g.is.shallow);
            flat = omega (arith, g.is.flat);
          };
          plain = record { no_loop = refl; no_branch = refl };
        };
      })))
