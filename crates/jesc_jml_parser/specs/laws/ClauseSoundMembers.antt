-- What the rules of members in annotations take.
use Rattle.std.proofs.Common.{◌≡◌, ℕ, ◌≤◌, true, false, List, [], ◌∷◌, ◌++◌, refl, sym, ap, ◌∙◌, append_assoc, arith}
use Rattle.std.specs.Prelude.{IsTrue, codes, not}
use Rattle.jesc_text.specs.declared.place.Span.{Span}
use Rattle.jesc_lexer.specs.declared.token.TokenKind.TheVariants as kinds
use Rattle.jesc_ast.specs.declared.word.Word.{Word}
use Rattle.jesc_ast.specs.declared.word.TypeTree.{TypeTree}
use Rattle.jesc_ast.specs.Lexemes.{Lexeme, chosen_word, kept}
use Rattle.jesc_ast.specs.FileTrees.{MemberForm}
use Rattle.jesc_ast.specs.Depth.{depth, nesting, of_option, of_member}
use Rattle.jesc_ast.specs.Expressions.{SpellsType, is_plain_type, is_array_type}
use Rattle.jesc_ast.specs.Members.{is_note_modifier, SpellsModifiers, SpellsNoteModifiers, SpellsInvariantModifiers, SpellsValue, no_value, some_value, SpellsGroups, no_groups, some_groups, is_field_word, SpellsNoteMember, is_invariant, is_represents, is_spec_field}
use Rattle.jesc_ast.specs.Specifications.{SpellsVisibility}
use Rattle.jesc_jml_grammar.specs.declared.mark.Mark.TheVariants as m
use Rattle.jesc_jml_grammar.specs.declared.note_word.NoteWord.{NoteWord}
use Rattle.jesc_jml_grammar.specs.declared.note_word.NoteWord.TheVariants as w
use Rattle.jesc_jml_grammar.specs.Marks.{lexeme_mark}
use Rattle.jesc_jml_grammar.specs.Steps.{Parser, pure, take_one, refuse, expect}
use Rattle.jesc_jml_grammar.specs.Reading as reading
use Rattle.jesc_jml_grammar.specs.Reading.{Parsed, Start, at_first, word_of}
use Rattle.jesc_jml_grammar.specs.ClauseMarks.{same_word, word_at, expect_word, is_modifier_word, is_represents_sign}
use Rattle.jesc_jml_grammar.specs.ClauseReading as spec
use Rattle.jesc_jml_grammar.specs.ClauseReading.{Ended, ended, Value, with_word, allow_invariant, allow_represents, allow_field, first_word}
use Rattle.jesc_jml_parser.specs.laws.SoundMarks.{marked}
use Rattle.jesc_jml_parser.specs.laws.SoundSteps.{Gives, gives_bind, gives_if, gives_so, took}
use Rattle.jesc_jml_parser.specs.laws.SoundCalls.{TakenWholeType, type_takes}
use Rattle.jesc_jml_parser.specs.laws.ClauseSoundMarks.{noted, noted_so, no_modifier, Represents, represents_by}
use Rattle.jesc_jml_parser.specs.laws.ClauseSoundLists.{end_of, end_of_both, IsSome, took_one_word, TookWord, took_word, TakenAs, IsRead, names_take}
use Rattle.jesc_jml_parser.specs.laws.ClauseSoundStores.{TakesExpressions}
use Rattle.jesc_jml_parser.specs.laws.ClauseSoundModifiers.{modifiers_take, field_modifiers, invariant_modifiers, represents_modifiers}

-- ---- what is read

-- with these lexemes before it
pub record IsFormRead (room k : ℕ) (before : List Lexeme) (f : Ended MemberForm) (u : List Lexeme) : Type 0 where
  pub read : IsRead SpellsNoteMember of_member room k (before ++ u) f.tree f.depth
  pub some : IsSome u
  pub last : (s : Span) → end_of s u ≡ f.last

pub record IsValueRead (room k : ℕ) (v : Value) (u : List Lexeme) : Type 0 where
  pub spelled : SpellsValue true v.equals v.e u
  pub deep : of_option depth 1 v.e ≡ v.depth
  pub shallow : v.depth ≤ room
  pub flat : of_option nesting 0 v.e ≤ k

-- behind what ends with this span
pub record AreGroups (s : Span) (gs : Ended (List Word)) (u : List Lexeme) : Type 0 where
  pub spelled : SpellsGroups gs.tree u
  pub last : end_of s u ≡ gs.last

-- a field behind its modifiers, which are these words
pub record IsFieldRead (room k : ℕ) (ws : List Word) (f : Ended MemberForm) (u : List Lexeme) : Type 0 where
  pub spelled : (s : Span) (x : List ℕ) (before after : List Word) (a b : List Lexeme) → ws ≡ before ++ kept true x s ∷ after → SpellsNoteModifiers before a
      → IsTrue (is_field_word x) → SpellsNoteModifiers after b → SpellsNoteMember f.tree (a ++ chosen_word true x s ∷ (b ++ u))
  pub deep : of_member depth 1 f.tree ≡ f.depth
  pub shallow : f.depth ≤ room
  pub flat : of_member nesting 0 f.tree ≤ k
  pub last : (s : Span) → end_of s u ≡ f.last

-- the first word of a type is no modifier
type_base : (ty : TypeTree) (u : List Lexeme) → SpellsType true ty u → (ts rest : List Lexeme) → ts ≡ u ++ rest → is_modifier_word (word_at ts) ≡ false
    → IsTrue (not (is_note_modifier ty.base))
unfolding word_at
type_base _ _ (is_plain_type s x typed) ts rest parts none = no_modifier x (ap (λ (z : List Lexeme). is_modifier_word (word_at z)) (sym parts) ∙ none)
type_base _ _ (is_array_type s p q x typed) ts rest parts none = no_modifier x (ap (λ (z : List Lexeme). is_modifier_word (word_at z)) (sym parts) ∙ none)

module _ (limit room : ℕ) (inner : ℕ → ℕ → Start → Parser Parsed) (reads : TakesExpressions room inner) (k : ℕ) where
  -- ---- invariants

  invariant_takes : (ws : List Word) (before : List Lexeme) → SpellsInvariantModifiers ws before → (ts : List Lexeme)
      → Gives (spec.invariant_behind limit room inner k ws ts) (TakenAs (IsFormRead room k before) ts)
  unfolding spec.invariant_behind
  invariant_takes ws before are ts =
      gives_bind _ _ (expect_word w.Invariant ts) (took_word w.Invariant ts) (λ x mid h.
      gives_bind _ _ (inner k 1 at_first mid) (reads k mid) (λ e end g.
      gives_bind _ _ (expect true m.Semicolon end) (took true m.Semicolon end) (λ q rest close.
      record {
        taken = x ∷ (g.taken ++ q ∷ []);
        parts = rw (h.at, g.parts, close.at) (sym (simp append_assoc));
        is = record {
          read = record {
            spelled = rw (noted_so kinds.Word (codes "invariant") x (noted w.Invariant x h.word), marked true m.Semicolon q close.mark)
                (is_invariant x.span q.span e.tree ws before g.taken are g.is.spelled);
            deep = g.is.deep;
            shallow = g.is.shallow;
            flat = g.is.flat;
          };
          some = tt;
          last = λ s. end_of_both x.span g.taken (q ∷ []);
        };
      })))

  -- ---- represents clauses

  represents_sign_takes : (ts : List Lexeme) → Gives (spec.represents_sign limit room inner k ts) (λ x rest. (ts ≡ x ∷ rest) × Represents x)
  unfolding spec.represents_sign
  represents_sign_takes ts =
      gives_if (is_represents_sign (word_at ts)) take_one refuse (λ x rest. (ts ≡ x ∷ rest) × Represents x) ts
      (λ e. gives_so (TookWord (word_at ts) ts) (λ x rest. (ts ≡ x ∷ rest) × Represents x) (take_one ts) (took_one_word ts) (λ x rest h.
      (h.at, represents_by (word_at ts) e x h.word)))
      (λ e. tt)

  represents_takes : (ws : List Word) (before : List Lexeme) → SpellsVisibility (first_word ws) before → (ts : List Lexeme)
      → Gives (spec.represents_behind limit room inner k ws ts) (TakenAs (IsFormRead room k before) ts)
  unfolding spec.represents_behind
  represents_takes ws before seen ts =
      gives_bind _ _ (expect_word w.Represents ts) (took_word w.Represents ts) (λ r first h.
      gives_bind _ _ (expect true m.Name first) (took true m.Name first) (λ x second named.
      gives_bind _ _ (spec.represents_sign limit room inner k second) (represents_sign_takes second) (λ op mid sign.
      gives_bind _ _ (inner k 1 at_first mid) (reads k mid) (λ e end g.
      gives_bind _ _ (expect true m.Semicolon end) (took true m.Semicolon end) (λ q rest close.
      let at = marked true m.Name x named.mark in
      record {
        taken = r ∷ x ∷ op ∷ (g.taken ++ q ∷ []);
        parts = rw (h.at, named.at, sign.0, g.parts, close.at) (sym (simp append_assoc));
        is = record {
          read = record {
            spelled = rw (noted_so kinds.Word (codes "represents") r (noted w.Represents r h.word), at.0, sign.1.at, marked true m.Semicolon q close.mark)
                (is_represents r.span x.span op.span q.span (first_word ws) x.text op.text e.tree before g.taken seen at.1 sign.1.is g.is.spelled);
            deep = g.is.deep;
            shallow = g.is.shallow;
            flat = g.is.flat;
          };
          some = tt;
          last = λ s. end_of_both op.span g.taken (q ∷ []);
        };
      })))))

  -- ---- fields

  some_value_takes : (ts : List Lexeme) → Gives (spec.some_value limit room inner k ts) (TakenAs (IsValueRead room k) ts)
  unfolding spec.some_value
  some_value_takes ts =
      gives_bind _ _ (expect_word w.Equals ts) (took_word w.Equals ts) (λ x mid h.
      gives_bind _ _ (inner k 1 at_first mid) (reads k mid) (λ e rest g.
      record {
        taken = x ∷ g.taken;
        parts = rw (h.at, g.parts) refl;
        is = record {
          spelled = rw (noted_so kinds.Sign (codes "=") x (noted w.Equals x h.word)) (some_value x.span e.tree g.taken g.is.spelled);
          deep = g.is.deep;
          shallow = g.is.shallow;
          flat = g.is.flat;
        };
      }))

  value_takes : (ts : List Lexeme) → Gives (spec.value limit room inner k ts) (TakenAs (IsValueRead room k) ts)
  unfolding spec.value
  value_takes ts =
      gives_if (same_word (word_at ts) w.Equals) (spec.some_value limit room inner k) (pure spec.no_value) (TakenAs (IsValueRead room k) ts) ts
      (λ e. some_value_takes ts)
      (λ e. record { taken = []; parts = refl; is = record { spelled = no_value; deep = refl; shallow = omega arith; flat = omega arith } })

  some_groups_take : (s : Span) (ts : List Lexeme) → Gives (spec.some_groups limit room inner k ts) (TakenAs (AreGroups s) ts)
  unfolding spec.some_groups
  some_groups_take s ts =
      gives_bind _ _ (expect_word w.In ts) (took_word w.In ts) (λ x mid h.
      gives_bind _ _ (spec.names limit room inner k mid) (names_take limit room inner k mid) (λ ws end g.
      gives_bind _ _ (expect true m.Semicolon end) (took true m.Semicolon end) (λ q rest close.
      record {
        taken = x ∷ (g.taken ++ q ∷ []);
        parts = rw (h.at, g.parts, close.at) (sym (simp append_assoc));
        is = record {
          spelled = rw (noted_so kinds.Word (codes "in") x (noted w.In x h.word), marked true m.Semicolon q close.mark) (some_groups x.span q.span ws g.taken g.is);
          last = end_of_both x.span g.taken (q ∷ []);
        };
      })))

  pub groups_take : (q : Lexeme) (ts : List Lexeme) → Gives (spec.groups limit room inner k q ts) (TakenAs (AreGroups q.span) ts)
  unfolding spec.groups
  groups_take q ts =
      gives_if (same_word (word_at ts) w.In) (spec.some_groups limit room inner k) (pure (ended [] 0 q)) (TakenAs (AreGroups q.span) ts) ts
      (λ e. some_groups_take q.span ts)
      (λ e. record { taken = []; parts = refl; is = record { spelled = no_groups; last = refl } })

  ending_takes : (ws : List Word) (ty : TypeTree) (y : Lexeme) (u all ts : List Lexeme) → all ≡ u ++ y ∷ ts → SpellsType true ty u → IsTrue (not (is_note_modifier ty.base))
      → lexeme_mark true y ≡ m.Name → Gives (spec.field_ending limit room inner k ws ty y ts) (TakenAs (IsFieldRead room k ws) all)
  unfolding spec.field_ending
  ending_takes ws ty y u all ts parts typed base named =
      gives_bind _ _ (spec.value limit room inner k ts) (value_takes ts) (λ v mid h.
      gives_bind _ _ (expect true m.Semicolon mid) (took true m.Semicolon mid) (λ q end close.
      gives_bind _ _ (spec.groups limit room inner k q end) (groups_take q end) (λ gs rest g.
      let at = marked true m.Name y named in
      record {
        taken = u ++ y ∷ (h.taken ++ q ∷ g.taken);
        parts = rw (parts, h.parts, close.at, g.parts) (sym (simp append_assoc));
        is = record {
          spelled = λ s x before after a b made first one second.
              rw (made, at.0, marked true m.Semicolon q close.mark)
              (is_spec_field s y.span q.span before after gs.tree x y.text ty v.equals v.e a b u h.taken g.taken first one second typed base at.1 h.is.spelled g.is.spelled);
          deep = h.is.deep;
          shallow = h.is.shallow;
          flat = h.is.flat;
          last = λ s. end_of_both s u (y ∷ (h.taken ++ q ∷ g.taken)) ∙ end_of_both y.span h.taken (q ∷ g.taken) ∙ g.is.last;
        };
      })))

  -- a type has no expressions inside
  any_type_takes : (ts : List Lexeme) → Gives (reading.type_ true limit room inner k ts) (TakenWholeType true ts)
  unfolding reading.type_ reading.type_word reading.type_behind
  any_type_takes ts = type_takes true limit room (λ k least start. refuse) (λ k least some start is ts. tt) k ts

  field_behind_takes : (ws : List Word) (ts : List Lexeme) → is_modifier_word (word_at ts) ≡ false
      → Gives (spec.field_behind limit room inner k ws ts) (TakenAs (IsFieldRead room k ws) ts)
  unfolding spec.field_behind
  field_behind_takes ws ts none =
      gives_bind _ _ (reading.type_ true limit room inner k ts) (any_type_takes ts) (λ ty mid h.
      gives_bind _ _ (expect true m.Name mid) (took true m.Name mid) (λ y rest named.
      ending_takes ws ty y h.taken ts rest (rw (h.parts, named.at) refl) h.spelled (type_base ty h.taken h.spelled ts mid h.parts none) named.mark))

  spec_field_takes : (ws : List Word) (before : List Lexeme) → SpellsNoteModifiers ws before → (ts : List Lexeme)
      → Gives (spec.spec_field_behind limit room inner k ws ts) (TakenAs (IsFormRead room k before) ts)
  unfolding spec.spec_field_behind
  spec_field_takes ws before are ts =
      gives_bind _ _ (expect_word w.Field ts) (took_word w.Field ts) (λ x mid h.
      gives_bind _ _ (spec.modifiers limit room inner k (with_word ws x) mid) (modifiers_take limit room inner k (with_word ws x) mid) (λ words end g.
      gives_so _ (TakenAs (IsFormRead room k before) ts) (spec.field_behind limit room inner k words end) (field_behind_takes words end g.ended) (λ f rest j.
      let at = noted w.Field x h.word in
      let kept_word : word_of x ≡ kept true x.text x.span = ap word_of at.0 in
      record {
        taken = x ∷ (g.taken ++ j.taken);
        parts = rw (h.at, g.parts, j.parts) (sym (simp append_assoc));
        is = record {
          read = record {
            spelled = rw at.0 (j.is.spelled x.span x.text ws g.is.after before g.taken
                (g.is.made ∙ append_assoc ws (word_of x ∷ []) g.is.after ∙ ap (λ (z : Word). ws ++ z ∷ g.is.after) kept_word) are at.1 g.is.spelled);
            deep = j.is.deep;
            shallow = j.is.shallow;
            flat = j.is.flat;
          };
          some = tt;
          last = λ s. end_of_both x.span g.taken j.taken ∙ j.is.last (end_of x.span g.taken);
        };
      })))

  -- ---- members

  form_by_takes : (ws : List Word) (before : List Lexeme) → SpellsModifiers ws before → (found : NoteWord) (ts : List Lexeme)
      → Gives (spec.form_by limit room inner k ws found ts) (TakenAs (IsFormRead room k before) ts)
  form_by_takes ws before are w.Invariant ts =
      gives_if (allow_invariant ws) (spec.invariant_behind limit room inner k ws) refuse (TakenAs (IsFormRead room k before) ts) ts
      (λ e. invariant_takes ws before (invariant_modifiers ws before are e) ts)
      (λ e. tt)
  form_by_takes ws before are w.Represents ts =
      gives_if (allow_represents ws) (spec.represents_behind limit room inner k ws) refuse (TakenAs (IsFormRead room k before) ts) ts
      (λ e. represents_takes ws before (represents_modifiers ws before are e) ts)
      (λ e. tt)
  form_by_takes ws before are w.Field ts =
      gives_if (allow_field ws) (spec.spec_field_behind limit room inner k ws) refuse (TakenAs (IsFormRead room k before) ts) ts
      (λ e. spec_field_takes ws before (field_modifiers ws before are e) ts)
      (λ e. tt)
  form_by_takes ws before are _ ts = tt

  pub form_takes : (ws : List Word) (before : List Lexeme) → SpellsModifiers ws before → (ts : List Lexeme)
      → Gives (spec.form_behind limit room inner k ws ts) (TakenAs (IsFormRead room k before) ts)
  unfolding spec.form_behind
  form_takes ws before are ts = form_by_takes ws before are (word_at ts) ts
