-- A member in an annotation behind modifiers that were read before: the longest one, and no other refusals.
use Rattle.std.proofs.Common.{◌≡◌, ℕ, true, false, List, [], ◌∷◌, ◌++◌, length, Ok, refl, sym, ap, ◌∙◌, subst, append_assoc, length-append, arith}
use Rattle.jesc_text.specs.declared.place.Span.{Span}
use Rattle.jesc_ast.specs.declared.word.Word.{Word}
use Rattle.jesc_ast.specs.Lexemes.{Lexeme, join}
use Rattle.jesc_ast.specs.FileTrees.{MemberForm, Member, member_of}
use Rattle.jesc_ast.specs.Members.{SpellsNoteModifiers}
use Rattle.jesc_jml_grammar.specs.declared.note_word.NoteWord.{NoteWord}
use Rattle.jesc_jml_grammar.specs.declared.note_word.NoteWord.TheVariants as w
use Rattle.jesc_jml_grammar.specs.Steps.{Parser, pure}
use Rattle.jesc_jml_grammar.specs.Reading.{expr}
use Rattle.jesc_jml_grammar.specs.laws.Refining.{bind_ok, ok_is}
use Rattle.jesc_jml_parser.specs.laws.Places.{split_at}
use Rattle.jesc_jml_parser.specs.laws.Stable.{refines_expr}
use Rattle.jesc_jml_parser.specs.laws.SoundSteps.{gives_ok}
use Rattle.jesc_jml_grammar.specs.ClauseMarks.{note_word, word_at, is_modifier_word}
use Rattle.jesc_jml_grammar.specs.ClauseReading as spec
use Rattle.jesc_jml_grammar.specs.ClauseReading.{Sized, sized, Ended}
use Rattle.jesc_jml_parser.specs.laws.ClauseStable.{refines_member_behind}
use Rattle.jesc_jml_parser.specs.laws.ClauseSoundLists.{IsSome, TakenAs}
use Rattle.jesc_jml_parser.specs.laws.ClauseSoundModifiers.{all_modifiers}
use Rattle.jesc_jml_parser.specs.laws.ClauseSoundMembers.{IsFormRead, form_takes}
use Rattle.jesc_jml_parser.specs.laws.ClauseSound.{member_behind_sound}
use Rattle.jesc_jml_parser.specs.laws.ClauseComplete.{member_behind_complete}
use Rattle.jesc_jml_parser.specs.laws.ClauseViable.{member_longer}
use Rattle.jesc_jml_parser.specs.laws.LongestWhole.{IsExact}
use Rattle.jesc_ast.specs.Depth.{IsMemberWithinLimits}
use Rattle.jesc_jml_parser.specs.Annotations.{SpellsAnnotation}
use Rattle.jesc_jml_parser.specs.laws.ClauseWhole.{member_depth, member_nesting, goes_on_with, form_no_end, reads, spanned}

-- there are lexemes, and the first of them is no modifier
abbrev pub StartsForm : List Lexeme → Type 0
StartsForm [] = ⊥
StartsForm (x ∷ xs) = is_modifier_word (note_word x) ≡ false

-- the modifiers and these lexemes, of which the first is no modifier, spell the member
abbrev pub SpellsBehindModifiers : List Lexeme → Member → List Lexeme → Type 0
SpellsBehindModifiers before t u = SpellsAnnotation t (before ++ u) × StartsForm u

abbrev pub member_parser_behind : Span → List Word → ℕ → ℕ → ℕ → Parser (Sized Member)
member_parser_behind first ws limit room k = spec.member_behind limit room (expr true limit room) k first ws

starts_word : (u rest : List Lexeme) → StartsForm u → is_modifier_word (word_at (u ++ rest)) ≡ false
unfolding word_at
starts_word [] rest starts = absurd starts
starts_word (x ∷ u) rest starts = starts

starts_more : (u v : List Lexeme) → StartsForm u → StartsForm (u ++ v)
starts_more [] v starts = absurd starts
starts_more (x ∷ u) v starts = starts

-- what a form begins with is no modifier
form_word : (limit room k : ℕ) (ws : List Word) (found : NoteWord) (ts rest : List Lexeme) (f : Ended MemberForm)
    → spec.form_by limit room (expr true limit room) k ws found ts ≡ Ok (f, rest) → is_modifier_word found ≡ false
form_word limit room k ws w.Visibility ts rest f is = absurd cc
form_word limit room k ws w.Instance ts rest f is = absurd cc
form_word limit room k ws w.Modifier ts rest f is = absurd cc
form_word limit room k ws _ ts rest f is = refl

starts_by : (u ts rest : List Lexeme) → ts ≡ u ++ rest → IsSome u → is_modifier_word (word_at ts) ≡ false → StartsForm u
unfolding word_at
starts_by [] ts rest parts some none = absurd some
starts_by (x ∷ u) ts rest parts some none = ap (λ (z : List Lexeme). is_modifier_word (word_at z)) (sym parts) ∙ none

module _ (limit room k : ℕ) (ws : List Word) (before : List Lexeme) (are : SpellsNoteModifiers ws before) where
  form_starts : (ts rest : List Lexeme) (f : Ended MemberForm) → spec.form_behind limit room (expr true limit room) k ws ts ≡ Ok (f, rest) → (u : List Lexeme) → ts ≡ u ++ rest
      → StartsForm u
  unfolding spec.form_behind
  form_starts ts rest f is u parts =
      let h : TakenAs (IsFormRead room k before) ts f rest =
      gives_ok (spec.form_behind limit room (expr true limit room) k ws ts) (TakenAs (IsFormRead room k before) ts) f rest
      (form_takes limit room (expr true limit room) (reads limit room) k ws before (all_modifiers ws before are) ts) is in
      let one = split_at ts h.taken rest (length rest) h.parts refl in
      let two = split_at ts u rest (length rest) parts refl in
      starts_by u ts rest parts (subst IsSome (sym one.0 ∙ two.0) h.is.some) (form_word limit room k ws (word_at ts) ts rest f is)

  member_starts : (first : Span) (ts rest : List Lexeme) (t : Sized Member) → member_parser_behind first ws limit room k ts ≡ Ok (t, rest) → (u : List Lexeme) → ts ≡ u ++ rest
      → StartsForm u
  unfolding spec.member_behind
  member_starts first ts rest t is u parts =
      let b = bind_ok (spec.form_behind limit room (expr true limit room) k ws ts)
      (λ (f : Ended MemberForm). pure (sized (member_of (join first f.last) f.tree) f.depth)) t rest is in
      let last = ok_is (sized (member_of (join first b.0.last) b.0.tree) b.0.depth) t b.1 rest b.3 in
      form_starts ts rest b.0 (subst (λ (z : List Lexeme). spec.form_behind limit room (expr true limit room) k ws ts ≡ Ok (b.0, z)) last.1 b.2) u parts

-- behind one modifier at least
pub member_exact_behind : (ws : List Word) (first : Lexeme) (before : List Lexeme) → SpellsNoteModifiers ws (first ∷ before)
    → IsExact (length (first ∷ before)) (SpellsBehindModifiers (first ∷ before)) IsMemberWithinLimits member_depth member_nesting goes_on_with (member_parser_behind first.span ws)
member_exact_behind ws first before are = record {
  refines = λ same limit limit' limits room room' rooms same_rooms k k' ks same_ks.
      refines_member_behind same limit limit' limits room room' rooms same_rooms (expr true limit room) (expr true limit' room') k k'
      (λ least start. refines_expr same true limit limit' limits room room' rooms same_rooms k k' ks same_ks least start) first.span ws;
  complete = λ limit room k t u rest spelled shallow flat few ends.
      subst (λ (z : Member). member_parser_behind first.span ws limit room k (u ++ rest) ≡ Ok (sized z (member_depth t), rest)) (spanned t ((first ∷ before) ++ u) spelled.0)
      (member_behind_complete limit room k ws (first ∷ before) t.form u rest are (starts_word u rest spelled.1) spelled.0.form shallow flat
      (omega (arith, length-append (first ∷ before) u)) ends);
  sound = λ limit room k ts rest t is.
      let S = member_behind_sound limit room (expr true limit room) (reads limit room) k ws (first ∷ before) (all_modifiers ws (first ∷ before) are) ts rest t is in
      record {
        taken = S.taken;
        parts = S.parts;
        spelled = (record { form = S.is.read.spelled; span = S.is.span }, member_starts limit room k ws (first ∷ before) are first.span ts rest t is S.taken S.parts);
        shallow = omega (arith, S.is.read.deep, S.is.read.shallow);
        flat = S.is.read.flat;
      };
  ends = λ t. form_no_end t.form;
  longer = λ t u x spelled goes.
      let L = member_longer t ((first ∷ before) ++ u) x spelled.0 goes in
      (L.0, L.1, (subst (SpellsAnnotation L.0) (append_assoc (first ∷ before) u (x ∷ L.1)) L.2, starts_more u (x ∷ L.1) spelled.1));
  limited = λ t limits. (limits.shallow, limits.flat);
  fitting = λ t shallow flat. record { shallow = shallow; flat = flat };
}
