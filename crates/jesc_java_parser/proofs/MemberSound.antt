-- What the rules of members take.
use Rattle.std.proofs.Common.{◌≡◌, ℕ, Bool, true, false, Option, Some, None, List, [], ◌∷◌, ◌++◌, refl, sym, ap, ◌∙◌, append_assoc, arith}
use Rattle.std.specs.Prelude.{codes, ◌||◌}
use Rattle.jesc_ast.specs.declared.word.Word.{Word}
use Rattle.jesc_ast.specs.declared.word.TypeTree.{TypeTree}
use Rattle.jesc_ast.specs.Lexemes.{Lexeme}
use Rattle.jesc_ast.specs.SpecTrees.{Specification}
use Rattle.jesc_ast.specs.Expressions.{SpellsType}
use Rattle.jesc_ast.specs.Members.{is_note_word, SpellsModifiers, no_modifiers, no_spec, some_spec, is_void, is_result, is_note_member, is_empty_member}
use Rattle.jesc_jml_grammar.specs.declared.mark.Mark.TheVariants as m
use Rattle.jesc_jml_grammar.specs.declared.note_word.NoteWord.{NoteWord}
use Rattle.jesc_jml_grammar.specs.declared.note_word.NoteWord.TheVariants as w
use Rattle.jesc_jml_grammar.specs.Steps.{Parser, mark_at, same_mark, expect}
use Rattle.jesc_jml_grammar.specs.Reading as reading
use Rattle.jesc_jml_grammar.specs.Reading.{Parsed, Start, word_of}
use Rattle.jesc_jml_grammar.specs.ClauseMarks.{note_word, word_at, expect_word, is_heading_word}
use Rattle.jesc_jml_grammar.specs.ClauseReading as clauses
use Rattle.jesc_jml_grammar.specs.ClauseFound.{Sized, with_word}
use Rattle.jesc_jml_parser.specs.laws.SoundMarks.{marked}
use Rattle.jesc_jml_parser.specs.laws.SoundLexemes.{typed}
use Rattle.jesc_jml_parser.specs.laws.SoundSteps.{Gives, gives_bind, gives_if, gives_so, took, TakesWhole}
use Rattle.jesc_jml_parser.specs.laws.SoundCalls.{type_takes, type_behind_takes}
use Rattle.jesc_jml_parser.specs.laws.ClauseSoundMarks.{modifies}
use Rattle.jesc_jml_parser.specs.laws.ClauseSoundLists.{some_behind, took_word, TakenAs}
use Rattle.jesc_jml_parser.specs.laws.ClauseSoundCases.{IsSpecRead, specification_takes, specification_behind_takes}
use Rattle.jesc_jml_parser.specs.laws.ClauseSoundModifiers.{all_modifiers}
use Rattle.jesc_jml_parser.specs.laws.ClauseSoundModifiers as notes
use Rattle.jesc_jml_parser.specs.laws.ClauseSoundStores.{takes_expressions}
use Rattle.jesc_jml_parser.specs.laws.ClauseSoundMembers.{form_takes}
use Rattle.jesc_java_grammar.specs.declared.member_mark.MemberMark.{MemberMark}
use Rattle.jesc_java_grammar.specs.declared.member_mark.MemberMark.TheVariants as marks
use Rattle.jesc_java_grammar.specs.Lexing.{is_word, take_if}
use Rattle.jesc_java_grammar.specs.FileMarks.{member_mark_at}
use Rattle.jesc_java_grammar.specs.FileReading as spec
use Rattle.jesc_java_parser.proofs.LexingSound.{took_this_word}
use Rattle.jesc_java_parser.proofs.ModifierSound.{both_modifiers, one_modifier, modifiers_take}
use Rattle.jesc_java_parser.proofs.MethodSound.{IsForm, IsSpec, ends_behind, method_takes, constructor_takes, field_takes}

second_false : (a b : Bool) → (a || b) ≡ false → b ≡ false
second_false true b e = absurd cc
second_false false b e = e

no_spec_read : (room k : ℕ) → IsSpec room k spec.no_spec []
no_spec_read room k = record { spelled = no_spec; deep = refl; shallow = omega arith; flat = omega arith }

some_spec_read : (room k : ℕ) (t : Sized Specification) (u : List Lexeme) → IsSpecRead room k t u → IsSpec room k (spec.some_spec t) u
some_spec_read room k t u h = record { spelled = some_spec t.tree u h.spelled; deep = h.deep; shallow = h.shallow; flat = h.flat }

module _ (limit room : ℕ) (expression : Bool → ℕ → ℕ → ℕ → Start → Parser Parsed)
    (reads : (note : Bool) (room : ℕ) → TakesWhole note room (expression note room)) (k : ℕ) where
  -- ---- members of Java, behind a specification, which may be missing

  module _ (t : Sized (Option Specification)) (s : List Lexeme) (before : IsSpec room k t s) where
    -- behind modifiers
    module _ (ws : List Word) (a : List Lexeme) (are : SpellsModifiers ws a) where
      typed_form_takes : (ty : TypeTree) (b : List Lexeme) → SpellsType false ty b → (all ts : List Lexeme) → all ≡ s ++ (a ++ (b ++ ts))
          → Gives (spec.typed_form limit room expression k t ws ty ts) (TakenAs (IsForm room k) all)
      unfolding spec.typed_form
      typed_form_takes ty b is all ts parts =
          gives_bind _ _ (expect false m.Name ts) (took false m.Name ts) (λ x mid named.
          gives_if (same_mark (mark_at false mid) m.LeftParen || spec.is_specified t.tree) (spec.method_behind limit room expression k t ws (Some ty) x)
          (spec.field_behind limit room expression k ws ty x) (TakenAs (IsForm room k) all) mid
          (λ e. method_takes limit room expression reads k t s before ws a are (Some ty) b (is_result ty b is) x named.mark all mid (rw (parts, named.at) refl))
          (λ e. field_takes limit room expression reads k t s before ws a are (second_false (same_mark (mark_at false mid) m.LeftParen) (spec.is_specified t.tree) e) ty b is x named.mark all mid
          (rw (parts, named.at) refl)))

      named_form_takes : (all ts : List Lexeme) → all ≡ s ++ (a ++ ts) → Gives (spec.named_form limit room expression k t ws ts) (TakenAs (IsForm room k) all)
      unfolding spec.named_form spec.named_type
      named_form_takes all ts parts =
          gives_bind _ _ (expect false m.Name ts) (took false m.Name ts) (λ x mid named.
          gives_if (same_mark (mark_at false mid) m.LeftParen) (spec.constructor_behind limit room expression k t ws x) (spec.named_type limit room expression k t ws x)
          (TakenAs (IsForm room k) all) mid
          (λ e. constructor_takes limit room expression reads k t s before ws a are x named.mark all mid (rw (parts, named.at) refl))
          (λ e.
          gives_bind _ _ (reading.type_behind false limit room (expression false room) k x mid)
          (type_behind_takes false limit room (expression false room) (reads false room) k x (typed false m.Name refl x named.mark) mid) (λ ty end h.
          typed_form_takes ty (x ∷ h.taken) h.spelled all end (rw (parts, named.at, h.parts) refl))))

      other_type_takes : (all ts : List Lexeme) → all ≡ s ++ (a ++ ts) → Gives (spec.other_type limit room expression k t ws ts) (TakenAs (IsForm room k) all)
      unfolding spec.other_type
      other_type_takes all ts parts =
          gives_bind _ _ (reading.type_ false limit room (expression false room) k ts) (type_takes false limit room (expression false room) (reads false room) k ts) (λ ty mid h.
          typed_form_takes ty h.taken h.spelled all mid (rw (parts, h.parts) refl))

      plain_form_takes : (all ts : List Lexeme) → all ≡ s ++ (a ++ ts) → Gives (spec.plain_form limit room expression k t ws ts) (TakenAs (IsForm room k) all)
      unfolding spec.plain_form
      plain_form_takes all ts parts =
          gives_if (same_mark (mark_at false ts) m.Name) (spec.named_form limit room expression k t ws) (spec.other_type limit room expression k t ws) (TakenAs (IsForm room k) all) ts
          (λ e. named_form_takes all ts parts)
          (λ e. other_type_takes all ts parts)

      void_method_takes : (all ts : List Lexeme) → all ≡ s ++ (a ++ ts) → Gives (spec.void_method limit room expression k t ws ts) (TakenAs (IsForm room k) all)
      unfolding spec.void_method
      void_method_takes all ts parts =
          gives_bind _ _ (take_if (is_word (codes "void") false) ts) (took_this_word (codes "void") false ts) (λ r mid first.
          gives_bind _ _ (expect false m.Name mid) (took false m.Name mid) (λ x end named.
          method_takes limit room expression reads k t s before ws a are None (r ∷ []) (rw first.is (is_void r.span)) x named.mark all end (rw (parts, first.at, named.at) refl)))

      java_by_takes : (mark : MemberMark) (all ts : List Lexeme) → all ≡ s ++ (a ++ ts) → Gives (spec.java_by limit room expression k t ws mark ts) (TakenAs (IsForm room k) all)
      java_by_takes marks.Void all ts parts = void_method_takes all ts parts
      java_by_takes _ all ts parts = plain_form_takes all ts parts

    java_form_takes : (ws : List Word) (a : List Lexeme) → SpellsModifiers ws a → (all ts : List Lexeme) → all ≡ s ++ (a ++ ts)
        → Gives (spec.java_form limit room expression k t ws ts) (TakenAs (IsForm room k) all)
    unfolding spec.java_form
    java_form_takes ws a are all ts parts =
        gives_bind _ _ (spec.modifiers limit room expression k ws ts) (modifiers_take limit room expression k ws a are (a ++ ts) ts refl) (λ words mid h.
        java_by_takes words h.taken h.is (member_mark_at mid) all mid (parts ∙ ap (λ (z : List Lexeme). s ++ z) h.parts))

  -- ---- behind a specification

  specified_form_takes : (ts : List Lexeme) → Gives (spec.specified_form limit room expression k ts) (TakenAs (IsForm room k) ts)
  unfolding spec.specified_form
  specified_form_takes ts =
      gives_bind _ _ (clauses.specification limit room (expression true room) k ts) (specification_takes limit room (expression true room) (takes_expressions room (expression true room) (reads true room)) k ts) (λ t mid h.
      java_form_takes (spec.some_spec t) h.taken (some_spec_read room k t h.taken h.is) [] [] no_modifiers ts mid h.parts)

  specified_behind_takes : (v : Lexeme) → note_word v ≡ w.Visibility → (all ts : List Lexeme) → all ≡ v ∷ ts
      → Gives (spec.specified_behind limit room expression k v ts) (TakenAs (IsForm room k) all)
  unfolding spec.specified_behind
  specified_behind_takes v seen all ts parts =
      gives_bind _ _ (clauses.specification_behind limit room (expression true room) k v ts) (specification_behind_takes limit room (expression true room) (takes_expressions room (expression true room) (reads true room)) k v seen ts) (λ t mid h.
      java_form_takes (spec.some_spec t) (v ∷ h.taken) (some_spec_read room k t (v ∷ h.taken) h.is) [] [] no_modifiers all mid (rw (parts, h.parts) refl))

  -- ---- behind modifiers of an annotation

  note_form_takes : (ws : List Word) (a : List Lexeme) → SpellsModifiers ws a → (all ts : List Lexeme) → all ≡ a ++ ts
      → Gives (spec.note_form limit room expression k ws ts) (TakenAs (IsForm room k) all)
  note_form_takes ws a are all ts parts =
      gives_so _ (TakenAs (IsForm room k) all) (clauses.form_behind limit room (expression true room) k ws ts) (form_takes limit room (expression true room) (takes_expressions room (expression true room) (reads true room)) k ws a are ts) (λ f rest h.
      record {
        taken = a ++ h.taken;
        parts = rw (parts, h.parts) (sym (append_assoc a h.taken rest));
        is = record {
          read = record { spelled = is_note_member f.tree (a ++ h.taken) h.is.read.spelled; deep = h.is.read.deep; shallow = h.is.read.shallow; flat = h.is.read.flat };
          some = some_behind a h.taken h.is.some;
          last = ends_behind f.last a h.taken h.is.last;
        };
      })

  noted_by_takes : (ws : List Word) (a : List Lexeme) → SpellsModifiers ws a → (word : NoteWord) (all ts : List Lexeme) → all ≡ a ++ ts
      → Gives (spec.noted_by limit room expression k ws word ts) (TakenAs (IsForm room k) all)
  noted_by_takes ws a are w.Invariant all ts parts = note_form_takes ws a are all ts parts
  noted_by_takes ws a are w.Represents all ts parts = note_form_takes ws a are all ts parts
  noted_by_takes ws a are w.Field all ts parts = note_form_takes ws a are all ts parts
  noted_by_takes ws a are _ all ts parts = java_form_takes spec.no_spec [] (no_spec_read room k) ws a are all ts parts

  noted_form_takes : (ws : List Word) (a : List Lexeme) → SpellsModifiers ws a → (all ts : List Lexeme) → all ≡ a ++ ts
      → Gives (spec.noted_form limit room expression k ws ts) (TakenAs (IsForm room k) all)
  unfolding spec.noted_form
  noted_form_takes ws a are all ts parts =
      gives_bind _ _ (clauses.modifiers limit room (expression true room) k ws ts) (notes.modifiers_take limit room (expression true room) k ws ts) (λ words mid h.
      let behind : SpellsModifiers words (a ++ h.taken) = rw h.is.made (both_modifiers ws h.is.after a h.taken are (all_modifiers h.is.after h.taken h.is.spelled)) in
      noted_by_takes words (a ++ h.taken) behind (word_at mid) all mid (rw (parts, h.parts) (sym (append_assoc a h.taken mid))))

  visible_form_takes : (ts : List Lexeme) → Gives (spec.visible_form limit room expression k ts) (TakenAs (IsForm room k) ts)
  unfolding spec.visible_form
  visible_form_takes ts =
      gives_bind _ _ (expect_word w.Visibility ts) (took_word w.Visibility ts) (λ v mid h.
      let at = modifies w.Visibility refl v h.word in
      gives_if (is_heading_word (word_at mid)) (spec.specified_behind limit room expression k v) (spec.noted_form limit room expression k (with_word [] v)) (TakenAs (IsForm room k) ts) mid
      (λ e. specified_behind_takes v h.word ts mid h.at)
      (λ e. noted_form_takes (word_of v ∷ []) (v ∷ []) (one_modifier (word_of v) (v ∷ []) (rw at.at (is_note_word v.span v.text at.modifier))) ts mid h.at))

  -- ---- any member

  empty_form_takes : (ts : List Lexeme) → Gives (spec.empty_form limit room expression k ts) (TakenAs (IsForm room k) ts)
  unfolding spec.empty_form
  empty_form_takes ts =
      gives_bind _ _ (expect false m.Semicolon ts) (took false m.Semicolon ts) (λ p rest close.
      record {
        taken = p ∷ [];
        parts = close.at;
        is = record {
          read = record { spelled = rw (marked false m.Semicolon p close.mark) (is_empty_member p.span); deep = refl; shallow = omega arith; flat = omega arith };
          some = tt;
          last = λ z. refl;
        };
      })

  code_form_takes : (ts : List Lexeme) → Gives (spec.code_form limit room expression k ts) (TakenAs (IsForm room k) ts)
  unfolding spec.code_form
  code_form_takes ts =
      gives_if (same_mark (mark_at false ts) m.Semicolon) (spec.empty_form limit room expression k) (spec.java_form limit room expression k spec.no_spec []) (TakenAs (IsForm room k) ts) ts
      (λ e. empty_form_takes ts)
      (λ e. java_form_takes spec.no_spec [] (no_spec_read room k) [] [] no_modifiers ts ts refl)

  form_by_takes : (word : NoteWord) (ts : List Lexeme) → Gives (spec.form_by limit room expression k word ts) (TakenAs (IsForm room k) ts)
  form_by_takes w.Visibility ts = visible_form_takes ts
  form_by_takes w.Instance ts = noted_form_takes [] [] no_modifiers ts ts refl
  form_by_takes w.Modifier ts = noted_form_takes [] [] no_modifiers ts ts refl
  form_by_takes w.Invariant ts = noted_form_takes [] [] no_modifiers ts ts refl
  form_by_takes w.Represents ts = noted_form_takes [] [] no_modifiers ts ts refl
  form_by_takes w.Field ts = noted_form_takes [] [] no_modifiers ts ts refl
  form_by_takes w.Also ts = specified_form_takes ts
  form_by_takes w.Behavior ts = specified_form_takes ts
  form_by_takes w.NormalBehavior ts = specified_form_takes ts
  form_by_takes w.ExceptionalBehavior ts = specified_form_takes ts
  form_by_takes w.Requires ts = specified_form_takes ts
  form_by_takes w.Ensures ts = specified_form_takes ts
  form_by_takes w.Assignable ts = specified_form_takes ts
  form_by_takes w.Signals ts = specified_form_takes ts
  form_by_takes w.SignalsOnly ts = specified_form_takes ts
  form_by_takes _ ts = code_form_takes ts

  pub any_form_takes : (ts : List Lexeme) → Gives (spec.form limit room expression k ts) (TakenAs (IsForm room k) ts)
  unfolding spec.form
  any_form_takes ts = form_by_takes (word_at ts) ts
