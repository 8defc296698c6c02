-- The lexemes of a member in an annotation are read as this member, where what stands behind does not go on with it.
use Rattle.std.proofs.Common.{◌≡◌, ℕ, ◌≤◌, ◌<◌, true, false, not, Option, List, [], ◌∷◌, ◌++◌, length, Ok, refl, sym, ap, ap₂, ◌∙◌, append_assoc, arith, IsTrue, codes}
use Rattle.std.proofs.lemmas.Bool.{and_right}
use Rattle.std.proofs.lemmas.List.{length-append}
use Rattle.jesc_text.specs.declared.place.Span.{Span}
use Rattle.jesc_ast.specs.declared.word.Word.{Word}
use Rattle.jesc_ast.specs.declared.word.TypeTree.{TypeTree}
use Rattle.jesc_ast.specs.Lexemes.{Lexeme, word, chosen_word, chosen_sign, sign, kept, join, span_of_all}
use Rattle.jesc_ast.specs.Words.{is_name}
use Rattle.jesc_ast.specs.FileTrees.{MemberForm, spec_field, class_invariant, represents, Member, member_of}
use Rattle.jesc_ast.specs.Expressions.{SpellsType, is_plain_type, is_array_type}
use Rattle.jesc_ast.specs.Depth.{depth, nesting, of_option, of_member}
use Rattle.jesc_ast.specs.Members.{is_note_modifier, SpellsNoteModifiers, is_field_word, SpellsNoteMember, is_invariant, is_represents, is_spec_field}
use Rattle.jesc_jml_grammar.specs.declared.mark.Mark.TheVariants as m
use Rattle.jesc_jml_grammar.specs.declared.note_word.NoteWord.TheVariants as w
use Rattle.jesc_jml_grammar.specs.Steps.{Outcome, Parser, mark_at, same_mark}
use Rattle.jesc_jml_grammar.specs.Reading.{word_of, expr}
use Rattle.jesc_jml_parser.specs.laws.CompleteMarks.{took_sign, took_name, name_at}
use Rattle.jesc_jml_parser.specs.laws.CompleteSteps.{parsed}
use Rattle.jesc_jml_parser.specs.laws.CompleteLonger.{type_is}
use Rattle.jesc_jml_grammar.specs.ClauseMarks.{note_word, word_at, span_at, is_modifier_word}
use Rattle.jesc_jml_grammar.specs.ClauseReading as spec
use Rattle.jesc_jml_grammar.specs.ClauseReading.{Sized, sized, Ended, Value, allow_field}
use Rattle.jesc_jml_parser.specs.laws.ClauseEdges.{member_goes_on}
use Rattle.jesc_jml_parser.specs.laws.ClauseSoundLists.{end_of, end_of_both, IsSome, some_behind, taken_span}
use Rattle.jesc_jml_parser.specs.laws.ClauseCompleteLists.{read_as, took_note, noted_by}
use Rattle.jesc_jml_parser.specs.laws.ClauseCompleteParts.{before_semicolon}
use Rattle.jesc_jml_parser.specs.laws.ClauseCompleteClauses.{ended_as}
use Rattle.jesc_jml_parser.specs.laws.ClauseCompleteMembers.{no_modifier_word, invariant_allowed, represents_allowed, field_allowed, modifiers_read, invariant_step, represents_step, value_read, groups_read}

-- ---- fields

type_first : (ty : TypeTree) (c : List Lexeme) → SpellsType true ty c → IsTrue (not (is_note_modifier ty.base)) → (rest : List Lexeme) → is_modifier_word (word_at (c ++ rest)) ≡ false
unfolding word_at
type_first _ _ (is_plain_type s x typed) none rest = no_modifier_word x s none
type_first _ _ (is_array_type s p q x typed) none rest = no_modifier_word x s none

name_no_bracket : (x : List ℕ) (s : Span) (rest : List Lexeme) → IsTrue (is_name x) → same_mark (mark_at true (chosen_word true x s ∷ rest)) m.LeftBracket ≡ false
unfolding mark_at same_mark
name_no_bracket x s rest named = rw (name_at true x s named) refl

module _ (limit room k : ℕ) where
  ending_step : (ws : List Word) (ty : TypeTree) (y : Lexeme) (v : Value) (p : Span) (gs : Ended (List Word)) (ts mid rest : List Lexeme)
      → spec.value limit room (expr true limit room) k ts ≡ Ok (v, sign true ";" p ∷ mid)
      → spec.groups limit room (expr true limit room) k (sign true ";" p) mid ≡ Ok (gs, rest)
      → spec.field_ending limit room (expr true limit room) k ws ty y ts ≡ read_as (ended_as (spec_field ws ty (word_of y) v.equals v.e gs.tree) v.depth gs.last) rest
  unfolding spec.field_ending
  ending_step ws ty y v p gs ts mid rest one two = rw (one, took_sign true m.Semicolon (codes ";") p mid refl, two) refl

  field_step : (ws : List Word) (ty : TypeTree) (c : List Lexeme) (x : List ℕ) (s : Span) (ts : List Lexeme) → SpellsType true ty c → IsTrue (is_name x)
      → spec.field_behind limit room (expr true limit room) k ws (c ++ chosen_word true x s ∷ ts)
      ≡ spec.field_ending limit room (expr true limit room) k ws ty (chosen_word true x s) ts
  unfolding spec.field_behind
  field_step ws ty c x s ts typed named =
      rw (
        type_is true limit room (expr true limit room) k typed (chosen_word true x s ∷ ts) (and_right (not ty.array) _ (name_no_bracket x s ts named)),
        took_name true x s ts named,
      ) refl

  field_form_step : (before after : List Word) (x : List ℕ) (s : Span) (b ts : List Lexeme) → allow_field before ≡ true → IsTrue (is_field_word x) → SpellsNoteModifiers after b
      → length b < limit → is_modifier_word (word_at ts) ≡ false
      → spec.form_behind limit room (expr true limit room) k before (chosen_word true x s ∷ (b ++ ts))
      ≡ spec.field_behind limit room (expr true limit room) k (before ++ kept true x s ∷ after) ts
  unfolding spec.form_behind spec.spec_field_behind word_at
  field_form_step before after x s b ts allowed is h few ends =
      let found : note_word (chosen_word true x s) ≡ w.Field = noted_by w.Field (refl, (refl, tt)) x s is in
      rw (found, allowed, took_note w.Field (chosen_word true x s) (b ++ ts) found, modifiers_read limit room k after b h (before ++ kept true x s ∷ []) ts few ends)
      (ap (λ (z : List Word). spec.field_behind limit room (expr true limit room) k z ts) (append_assoc before (kept true x s ∷ []) after))

-- ---- forms

-- Its lexemes are those of modifiers, and others before which no modifier stands, that are read as the form.
pub record ReadsForm (limit room k : ℕ) (f : MemberForm) (u rest : List Lexeme) : Type 0 where
  pub words : List Word
  pub front : List Lexeme
  pub back : List Lexeme
  pub parts : u ≡ front ++ back
  pub modifiers : SpellsNoteModifiers words front
  pub some : IsSome back
  pub first : is_modifier_word (word_at (back ++ rest)) ≡ false
  pub is : (s : Span) → spec.form_behind limit room (expr true limit room) k words (back ++ rest) ≡ read_as (ended_as f (of_member depth 1 f) (end_of s back)) rest

module _ (limit room k : ℕ) where
  abbrev form_parser : List Word → Parser (Ended MemberForm)
  form_parser = spec.form_behind limit room (expr true limit room) k

  pub form_reads : (f : MemberForm) (u : List Lexeme) → SpellsNoteMember f u → (rest : List Lexeme) → of_member depth 1 f ≤ room → of_member nesting 0 f ≤ k → length u < limit
      → member_goes_on f (word_at rest) ≡ false → ReadsForm limit room k f u rest
  unfolding word_at
  form_reads _ _ (is_invariant s p e ws t u are h) rest deep flat few ends =
      let allowed = invariant_allowed ws t are in
      let lens = length-append t (word true "invariant" s ∷ (u ++ sign true ";" p ∷ [])) in
      let inside = length-append u (sign true ";" p ∷ []) in
      record {
        words = ws;
        front = t;
        back = word true "invariant" s ∷ (u ++ sign true ";" p ∷ []);
        parts = refl;
        modifiers = allowed.0;
        some = tt;
        first = refl;
        is = λ before.
            ap (λ (z : List Lexeme). form_parser ws (word true "invariant" s ∷ z)) (append_assoc u (sign true ";" p ∷ []) rest)
            ∙ invariant_step limit room k ws s p (parsed h.0 e) (u ++ sign true ";" p ∷ rest) rest allowed.1
            (before_semicolon limit room k e u h p rest deep flat (omega arith))
            ∙ ap (λ (z : Span). read_as (ended_as (class_invariant ws e) (depth e) z) rest) (sym (end_of_both s u (sign true ";" p ∷ [])));
      }
  form_reads _ _ (is_represents s n o p visibility x op e t u seen named is h) rest deep flat few ends =
      let S = represents_allowed visibility t seen in
      let lens = length-append t (word true "represents" s ∷ chosen_word true x n ∷ chosen_sign true op o ∷ (u ++ sign true ";" p ∷ [])) in
      let inside = length-append u (sign true ";" p ∷ []) in
      record {
        words = S.words;
        front = t;
        back = word true "represents" s ∷ chosen_word true x n ∷ chosen_sign true op o ∷ (u ++ sign true ";" p ∷ []);
        parts = refl;
        modifiers = S.spelled;
        some = tt;
        first = refl;
        is = λ before.
            ap (λ (z : List Lexeme). form_parser S.words (word true "represents" s ∷ chosen_word true x n ∷ chosen_sign true op o ∷ z)) (append_assoc u (sign true ";" p ∷ []) rest)
            ∙ represents_step limit room k S.words s n o p x op (parsed h.0 e) (u ++ sign true ";" p ∷ rest) rest S.allowed named is
            (before_semicolon limit room k e u h p rest deep flat (omega arith))
            ∙ ap₂ (λ (z : Span) (v : Option Word). read_as (ended_as (represents v (kept true x n) (kept true op o) e) (depth e) z) rest)
            (sym (end_of_both o u (sign true ";" p ∷ []))) S.first;
      }
  form_reads _ _ (is_spec_field s n p before after groups x y ty equals value a b c d g one is two typed base named hv hg) rest deep flat few ends =
      let tail : List Lexeme = d ++ sign true ";" p ∷ g in
      let lens = length-append a (chosen_word true x s ∷ (b ++ (c ++ chosen_word true y n ∷ tail))) in
      let lens_b = length-append b (c ++ chosen_word true y n ∷ tail) in
      let lens_c = length-append c (chosen_word true y n ∷ tail) in
      let lens_d = length-append d (sign true ";" p ∷ g) in
      let all : List Word = before ++ kept true x s ∷ after in
      record {
        words = before;
        front = a;
        back = chosen_word true x s ∷ (b ++ (c ++ chosen_word true y n ∷ tail));
        parts = refl;
        modifiers = one;
        some = tt;
        first = ap is_modifier_word (noted_by w.Field (refl, (refl, tt)) x s is);
        is = λ first.
            ap (λ (z : List Lexeme). form_parser before (chosen_word true x s ∷ z))
            (append_assoc b (c ++ chosen_word true y n ∷ tail) rest ∙ ap (λ (z : List Lexeme). b ++ z) (append_assoc c (chosen_word true y n ∷ tail) rest
            ∙ ap (λ (z : List Lexeme). c ++ chosen_word true y n ∷ z) (append_assoc d (sign true ";" p ∷ g) rest)))
            ∙ field_form_step limit room k before after x s b (c ++ chosen_word true y n ∷ (d ++ sign true ";" p ∷ (g ++ rest))) (field_allowed before a one) is two (omega arith)
            (type_first ty c typed base (chosen_word true y n ∷ (d ++ sign true ";" p ∷ (g ++ rest))))
            ∙ field_step limit room k all ty c y n (d ++ sign true ";" p ∷ (g ++ rest)) typed named
            ∙ ending_step limit room k all ty (chosen_word true y n) (record { equals = equals; e = value; depth = of_option depth 1 value }) p (ended_as groups 0 (end_of p g))
            (d ++ sign true ";" p ∷ (g ++ rest)) (g ++ rest) rest
            (value_read limit room k equals value d hv p (g ++ rest) deep flat (omega arith))
            (groups_read limit room k all ty (kept true y n) equals value groups g hg (sign true ";" p) rest (omega arith) ends)
            ∙ ap (λ (z : Span). read_as (ended_as (spec_field all ty (kept true y n) equals value groups) (of_option depth 1 value) z) rest)
            (sym (end_of_both s b (c ++ chosen_word true y n ∷ tail) ∙ end_of_both (end_of s b) c (chosen_word true y n ∷ tail) ∙ end_of_both n d (sign true ";" p ∷ g)));
      }

-- ---- members

module _ (limit room k : ℕ) where
  member_step : (first : Span) (ws : List Word) (f : Ended MemberForm) (ts rest : List Lexeme) → spec.form_behind limit room (expr true limit room) k ws ts ≡ Ok (f, rest)
      → spec.member_behind limit room (expr true limit room) k first ws ts ≡ read_as (sized (member_of (join first f.last) f.tree) f.depth) rest
  unfolding spec.member_behind
  member_step first ws f ts rest read = rw read refl

  -- behind modifiers that were read before, it reads on as from the first of them
  pub member_behind_is : (ws : List Word) (before ts : List Lexeme) → SpellsNoteModifiers ws before → length before < limit → is_modifier_word (word_at ts) ≡ false
      → spec.member_behind limit room (expr true limit room) k (span_at (before ++ ts)) ws ts ≡ spec.member_annotation limit room (expr true limit room) k (before ++ ts)
  unfolding spec.member_annotation
  member_behind_is ws before ts h few ends = rw (modifiers_read limit room k ws before h [] ts few ends) refl

  abbrev member_as : Span → MemberForm → List Lexeme → Outcome (Sized Member)
  member_as s f rest = read_as (sized (member_of s f) (of_member depth 1 f)) rest

  pub member_annotation_complete : (f : MemberForm) (u rest : List Lexeme) → SpellsNoteMember f u → of_member depth 1 f ≤ room → of_member nesting 0 f ≤ k → length u < limit
      → member_goes_on f (word_at rest) ≡ false
      → spec.member_annotation limit room (expr true limit room) k (u ++ rest) ≡ read_as (sized (member_of (span_of_all u) f) (of_member depth 1 f)) rest
  member_annotation_complete f u rest h deep flat few ends =
      let R = form_reads limit room k f u h rest deep flat few ends in
      let ts : List Lexeme = R.front ++ (R.back ++ rest) in
      let behind : Span = end_of (span_at ts) R.front in
      let enough : length R.front < limit = omega (arith, length-append R.front R.back, ap length R.parts) in
      ap (spec.member_annotation limit room (expr true limit room) k) (ap (λ (z : List Lexeme). z ++ rest) R.parts ∙ append_assoc R.front R.back rest)
      ∙ sym (member_behind_is R.words R.front (R.back ++ rest) R.modifiers enough R.first)
      ∙ member_step (span_at ts) R.words (ended_as f (of_member depth 1 f) (end_of behind R.back)) (R.back ++ rest) rest (R.is behind)
      ∙ ap (λ (z : Span). member_as z f rest)
      (ap (join (span_at ts)) (sym (end_of_both (span_at ts) R.front R.back))
      ∙ taken_span (R.front ++ R.back) ts rest (sym (append_assoc R.front R.back rest)) (some_behind R.front R.back R.some)
      ∙ ap span_of_all (sym R.parts))

  pub member_behind_complete : (ws : List Word) (before : List Lexeme) (f : MemberForm) (u rest : List Lexeme) → SpellsNoteModifiers ws before
      → is_modifier_word (word_at (u ++ rest)) ≡ false → SpellsNoteMember f (before ++ u) → of_member depth 1 f ≤ room → of_member nesting 0 f ≤ k → length (before ++ u) < limit
      → member_goes_on f (word_at rest) ≡ false
      → spec.member_behind limit room (expr true limit room) k (span_at (before ++ (u ++ rest))) ws (u ++ rest)
      ≡ read_as (sized (member_of (span_of_all (before ++ u)) f) (of_member depth 1 f)) rest
  member_behind_complete ws before f u rest are first h deep flat few ends =
      member_behind_is ws before (u ++ rest) are (omega (arith, length-append before u)) first
      ∙ ap (spec.member_annotation limit room (expr true limit room) k) (sym (append_assoc before u rest))
      ∙ member_annotation_complete f (before ++ u) rest h deep flat few ends
