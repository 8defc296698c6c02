-- The lexemes of a member are read as this member.
use Rattle.std.proofs.Common.{◌≡◌, ℕ, ◌+◌, ◌≤◌, ◌<◌, Bool, true, false, List, [], ◌∷◌, ◌++◌, length, length-append, Option, Some, Ok, Err, refl, sym, ap, ◌∙◌, subst, arith, append_assoc, codes, inl, inr}
use Rattle.std.proofs.lemmas.Bool.{cases_Bool}
use Rattle.jesc_text.specs.declared.place.Span.{Span}
use Rattle.jesc_ast.specs.declared.word.Word.{Word}
use Rattle.jesc_ast.specs.Lexemes.{Lexeme, sign, chosen_word, kept}
use Rattle.jesc_ast.specs.SpecTrees.{Specification}
use Rattle.jesc_ast.specs.FileTrees.{MemberForm, no_member, field, spec_field}
use Rattle.jesc_ast.specs.Depth.{depth, nesting, of_cases, of_spec, of_member}
use Rattle.jesc_ast.specs.Members.{is_code_word, is_note_word, is_override, SpellsModifiers, no_modifiers, more_modifiers, SpellsNoteModifiers, no_note_modifiers, more_note_modifiers, SpellsOptionalSpec, no_spec, some_spec, SpellsNoteMember, SpellsMemberNode, is_note_member, is_empty_member, is_field, is_method, is_constructor}
use Rattle.jesc_jml_grammar.specs.declared.mark.Mark.TheVariants as m
use Rattle.jesc_jml_grammar.specs.declared.fault.Fault.TheVariants.{Unexpected}
use Rattle.jesc_jml_grammar.specs.declared.note_word.NoteWord.{NoteWord}
use Rattle.jesc_jml_grammar.specs.declared.note_word.NoteWord.TheVariants as w
use Rattle.jesc_jml_grammar.specs.Marks.{lexeme_mark}
use Rattle.jesc_jml_grammar.specs.Steps.{Outcome, Parser, mark_at, same_mark}
use Rattle.jesc_jml_parser.specs.laws.CompleteMarks.{took_sign}
use Rattle.jesc_jml_grammar.specs.ClauseMarks.{word_at, is_heading_word, is_modifier_word}
use Rattle.jesc_jml_grammar.specs.ClauseReading as clauses
use Rattle.jesc_jml_grammar.specs.ClauseReading.{Sized, sized, Ended}
use Rattle.jesc_jml_parser.specs.laws.ClauseEdges.{member_goes_on}
use Rattle.jesc_jml_parser.specs.laws.ClauseSoundMarks.{of_one_of}
use Rattle.jesc_jml_parser.specs.laws.ClauseSoundLists.{end_of, end_of_both, IsSome, some_behind}
use Rattle.jesc_jml_parser.specs.laws.ClauseCompleteClauses.{ended_as}
use Rattle.jesc_jml_parser.specs.laws.ClauseCompleteLists.{read_as}
use Rattle.jesc_jml_parser.specs.laws.ClauseCompleteSpecs.{specification_complete}
use Rattle.jesc_jml_parser.specs.laws.ClauseComplete.{form_reads}
use Rattle.jesc_java_grammar.specs.FileReading as spec
use Rattle.jesc_java_grammar.specs.FileReading.{expression_of}
use Rattle.jesc_java_parser.proofs.CompleteModifiers.{code_modifiers, modifiers_read, split}
use Rattle.jesc_java_parser.proofs.CompleteJava.{form_goes_on, Specified}
use Rattle.jesc_java_parser.proofs.CompleteTails.{IsTail, method_tail, constructor_tail, field_tail}
use Rattle.jesc_java_parser.proofs.CompleteEntries.{spec_ends, form, java_form, specified_read, noted_is, noted_read}

-- ---- members of annotations

abbrev is_note_start : NoteWord → Bool
is_note_start w.Invariant = true
is_note_start w.Represents = true
is_note_start w.Field = true
is_note_start _ = false

module _ (limit room quantifiers : ℕ) where
  abbrev form_as : MemberForm → ℕ → Span → List Lexeme → Outcome (Ended MemberForm)
  form_as f d last rest = read_as (ended_as f d last) rest

  abbrev form_behind : List Word → Parser (Ended MemberForm)
  form_behind = clauses.form_behind limit room (expression_of limit true room) quantifiers

  record Starts (ws : List Word) (word : NoteWord) (ts : List Lexeme) : Type 0 where
    noted : spec.noted_by limit room (expression_of limit) quantifiers ws word ts ≡ form_behind ws ts
    no_case : is_heading_word word ≡ false
    alone : spec.form_by limit room (expression_of limit) quantifiers word ts ≡ spec.noted_form limit room (expression_of limit) quantifiers [] ts

  starts : (ws : List Word) (word : NoteWord) (ts : List Lexeme) → is_note_start word ≡ true → Starts ws word ts
  starts ws w.Invariant ts s = record { noted = refl; no_case = refl; alone = refl }
  starts ws w.Represents ts s = record { noted = refl; no_case = refl; alone = refl }
  starts ws w.Field ts s = record { noted = refl; no_case = refl; alone = refl }
  starts ws _ ts s = absurd cc

  refused : (ws : List Word) (word : NoteWord) (ts : List Lexeme) → is_note_start word ≡ false
      → clauses.form_by limit room (expression_of limit true room) quantifiers ws word ts ≡ Err (Unexpected (length ts))
  refused ws w.Invariant ts s = absurd cc
  refused ws w.Represents ts s = absurd cc
  refused ws w.Field ts s = absurd cc
  refused ws _ ts s = refl

  form_by_word : (ws : List Word) (ts : List Lexeme)
      → form_behind ws ts ≡ clauses.form_by limit room (expression_of limit true room) quantifiers ws (word_at ts) ts
  unfolding clauses.form_behind
  form_by_word ws ts = refl

  read_starts : (ws : List Word) (ts rest : List Lexeme) (f : Ended MemberForm) → form_behind ws ts ≡ Ok (f, rest) → Starts ws (word_at ts) ts
  read_starts ws ts rest f read = elim (cases_Bool (is_note_start (word_at ts))) [
    | inl s ↦ starts ws (word_at ts) ts s
    | inr none ↦ absurd (cc (read, form_by_word ws ts, refused ws (word_at ts) ts none))
  ]

  alone_read : (ts : List Lexeme) → Starts [] (word_at ts) ts → is_modifier_word (word_at ts) ≡ false → 0 < limit → form limit room quantifiers ts ≡ form_behind [] ts
  unfolding spec.form
  alone_read ts s none some = s.alone ∙ noted_is limit room quantifiers [] [] no_note_modifiers [] ts some none ∙ s.noted

  behind_modifiers : (ws : List Word) (front : List Lexeme) → SpellsNoteModifiers ws front → (more rest : List Lexeme) (f : Ended MemberForm) → form_behind ws more ≡ Ok (f, rest)
      → is_modifier_word (word_at more) ≡ false → length front < limit → form limit room quantifiers (front ++ more) ≡ read_as f rest
  behind_modifiers _ _ no_note_modifiers more rest f read none few = alone_read more (read_starts [] more rest f read) none few ∙ read
  behind_modifiers _ _ (more_note_modifiers n x ws u is h) more rest f read none few =
      let all = more_note_modifiers n x ws u is h in
      let s = read_starts (kept true x n ∷ ws) more rest f read in
      noted_read limit room quantifiers (kept true x n ∷ ws) (chosen_word true x n ∷ u) all tt more few none s.no_case ∙ s.noted ∙ read

-- what goes on with a member of an annotation goes on with the member
goes_on_so : (f : MemberForm) (found : NoteWord) → form_goes_on f found ≡ false → member_goes_on f found ≡ false
goes_on_so (field ws ty x equals value gs) found e = refl
goes_on_so (spec_field ws ty x equals value []) found e = e
goes_on_so (spec_field ws ty x equals value (g ∷ gs)) found e = refl
goes_on_so _ found e = refl

-- ---- members

-- the lexemes are read as the member, and nothing behind them
pub record IsMember (limit room quantifiers : ℕ) (f : MemberForm) (u rest : List Lexeme) : Type 0 where
  pub some : IsSome u
  pub is : (first : Span) → form limit room quantifiers (u ++ rest) ≡ form_as limit room quantifiers f (of_member depth 1 f) (end_of first u) rest

module _ (limit room quantifiers : ℕ) where
  note_member_read : (f : MemberForm) (u rest : List Lexeme) → SpellsNoteMember f u → of_member depth 1 f ≤ room → of_member nesting 0 f ≤ quantifiers → length u < limit
      → form_goes_on f (word_at rest) ≡ false → IsMember limit room quantifiers f u rest
  note_member_read f u rest h deep flat few ends =
      let R = form_reads limit room quantifiers f u h rest deep flat few (goes_on_so f (word_at rest) ends) in
      let short : length R.front < limit = omega (arith, ap length R.parts, length-append R.front R.back) in
      record {
        some = subst IsSome (sym R.parts) (some_behind R.front R.back R.some);
        is = λ first.
            ap (form limit room quantifiers) (ap (λ (z : List Lexeme). z ++ rest) R.parts ∙ append_assoc R.front R.back rest)
            ∙ behind_modifiers limit room quantifiers R.words R.front R.modifiers (R.back ++ rest) rest (ended_as f (of_member depth 1 f) (end_of (end_of first R.front) R.back))
            (R.is (end_of first R.front)) R.first short
            ∙ ap (λ (z : Span). form_as limit room quantifiers f (of_member depth 1 f) z rest) (sym (end_of_both first R.front R.back) ∙ ap (end_of first) (sym R.parts));
      }

  -- ---- members of Java

  modifiers_open : (ws : List Word) (a : List Lexeme) → SpellsModifiers ws a → (ts : List Lexeme) → same_mark (mark_at false ts) m.Semicolon ≡ false
      → same_mark (mark_at false (a ++ ts)) m.Semicolon ≡ false
  unfolding mark_at same_mark
  modifiers_open _ _ no_modifiers ts none = none
  modifiers_open _ _ (more_modifiers _ ws _ b (is_code_word n x is) more) ts none =
      of_one_of (λ z. same_mark (lexeme_mark false (chosen_word false z n)) m.Semicolon ≡ false) code_modifiers x (refl, (refl, (refl, (refl, (refl, (refl, tt)))))) is
  modifiers_open _ _ (more_modifiers _ ws _ b (is_note_word n x is) more) ts none = refl
  modifiers_open _ _ (more_modifiers _ ws _ b (is_override at n) more) ts none = refl

  code_read : (ts : List Lexeme) → word_at ts ≡ w.Other → same_mark (mark_at false ts) m.Semicolon ≡ false
      → form limit room quantifiers ts ≡ java_form limit room quantifiers spec.no_spec [] ts
  unfolding spec.form spec.code_form
  code_read ts other none = rw other (rw none refl)

  unspecified_read : (ws : List Word) (front : List Lexeme) → SpellsNoteModifiers ws front → (more : List Lexeme) → word_at more ≡ w.Other
      → same_mark (mark_at false more) m.Semicolon ≡ false → length front < limit
      → form limit room quantifiers (front ++ more) ≡ java_form limit room quantifiers spec.no_spec ws more
  unspecified_read _ _ no_note_modifiers more other none few = code_read more other none
  unspecified_read _ _ (more_note_modifiers n x ws u is h) more other none few =
      noted_read limit room quantifiers (kept true x n ∷ ws) (chosen_word true x n ∷ u) (more_note_modifiers n x ws u is h) tt more few (ap is_modifier_word other) (ap is_heading_word other)
      ∙ ap (λ (z : NoteWord). spec.noted_by limit room (expression_of limit) quantifiers (kept true x n ∷ ws) z more) other

  tail_read : (sp : Specified) (found others : List Word) (back : List Lexeme) → SpellsModifiers others back → (f : MemberForm) (d : ℕ) (tail rest : List Lexeme)
      → IsTail limit room quantifiers sp (found ++ others) f d tail rest → length back < limit → (first : Span)
      → java_form limit room quantifiers sp found (back ++ (tail ++ rest)) ≡ form_as limit room quantifiers f d (end_of first tail) rest
  unfolding spec.java_form
  tail_read sp found others back h f d tail rest T few first = rw (modifiers_read limit room quantifiers others back h found (tail ++ rest) few T.bare) (T.is first)

  plain_read : (ws : List Word) (a : List Lexeme) → SpellsModifiers ws a → (f : MemberForm) (d : ℕ) (tail rest : List Lexeme) → IsTail limit room quantifiers spec.no_spec ws f d tail rest
      → length (a ++ tail) < limit → (first : Span)
      → form limit room quantifiers ((a ++ tail) ++ rest) ≡ form_as limit room quantifiers f d (end_of first (a ++ tail)) rest
  plain_read ws a h f d tail rest T few first =
      let S = split ws a h (tail ++ rest) T.quiet in
      let lens : length a ≡ length S.front + length S.back = ap length S.parts ∙ length-append S.front S.back in
      let T' : IsTail limit room quantifiers spec.no_spec (S.noted ++ S.others) f d tail rest = subst (λ (z : List Word). IsTail limit room quantifiers spec.no_spec z f d tail rest) (sym S.words) T in
      ap (form limit room quantifiers) (append_assoc a tail rest ∙ ap (λ (z : List Lexeme). z ++ (tail ++ rest)) S.parts ∙ append_assoc S.front S.back (tail ++ rest))
      ∙ unspecified_read S.noted S.front S.first (S.back ++ (tail ++ rest)) S.next (modifiers_open S.others S.back S.then_ (tail ++ rest) T.open_) (omega (arith, length-append a tail))
      ∙ tail_read spec.no_spec S.noted S.others S.back S.then_ f d tail rest T' (omega (arith, length-append a tail)) (end_of first a)
      ∙ ap (λ (z : Span). form_as limit room quantifiers f d z rest) (sym (end_of_both first a tail))

  -- behind a specification, which may be missing
  java_read : (t : Option Specification) (s : List Lexeme) → SpellsOptionalSpec t s → (ws : List Word) (a : List Lexeme) → SpellsModifiers ws a → (f : MemberForm) (d : ℕ)
      (tail rest : List Lexeme) → IsTail limit room quantifiers (sized t (of_spec depth 1 t)) ws f d tail rest → length (s ++ (a ++ tail)) < limit → of_spec depth 1 t ≤ room
      → of_spec nesting 0 t ≤ quantifiers → (first : Span)
      → form limit room quantifiers ((s ++ (a ++ tail)) ++ rest) ≡ form_as limit room quantifiers f d (end_of first (s ++ (a ++ tail))) rest
  java_read _ _ no_spec ws a h f d tail rest T few deep flat first = plain_read ws a h f d tail rest T few first
  java_read _ _ (some_spec t s hs) ws a h f d tail rest T few deep flat first =
      let behind : List Lexeme = a ++ (tail ++ rest) in
      let one = length-append s (a ++ tail) in
      let two = length-append a tail in
      ap (form limit room quantifiers) (append_assoc s (a ++ tail) rest ∙ ap (λ (z : List Lexeme). s ++ z) (append_assoc a tail rest))
      ∙ specified_read limit room quantifiers (sized t (of_cases depth 1 t.cases)) (s ++ behind) behind
      (specification_complete limit room quantifiers t s behind hs deep flat (omega arith) (spec_ends t ws a h (tail ++ rest) T.quiet))
      ∙ tail_read (sized (Some t) (of_cases depth 1 t.cases)) [] ws a h f d tail rest T (omega arith) (end_of (end_of first s) a)
      ∙ ap (λ (z : Span). form_as limit room quantifiers f d z rest) (sym (end_of_both first s (a ++ tail) ∙ end_of_both (end_of first s) a tail))

  empty_read : (p : Span) (rest : List Lexeme) → form limit room quantifiers (sign false ";" p ∷ rest) ≡ form_as limit room quantifiers no_member 0 p rest
  unfolding spec.form spec.code_form spec.empty_form word_at mark_at same_mark
  empty_read p rest = rw (took_sign false m.Semicolon (codes ";") p rest refl) refl

  -- The lexemes of a member are read as this member, where nothing goes on with it.
  pub member_node_read : (f : MemberForm) (u : List Lexeme) → SpellsMemberNode f u → (rest : List Lexeme) → of_member depth 1 f ≤ room → of_member nesting 0 f ≤ quantifiers
      → length u < limit → form_goes_on f (word_at rest) ≡ false → IsMember limit room quantifiers f u rest
  member_node_read _ _ (is_note_member f u h) rest deep flat few ends = note_member_read f u rest h deep flat few ends
  member_node_read _ _ (is_empty_member p) rest deep flat few ends = record { some = tt; is = λ first. empty_read p rest }
  member_node_read _ _ (is_field n p ws groups ty x equals value a b c g ha hty named hc hg) rest deep flat few ends =
      let tail : List Lexeme = b ++ chosen_word false x n ∷ (c ++ sign false ";" p ∷ g) in
      let lens = length-append a tail in
      let T = field_tail limit room quantifiers ws ty x n p equals value groups b c g hty named hc hg rest (omega arith) deep flat ends in
      record { some = some_behind a tail T.some; is = λ first. plain_read ws a ha _ _ tail rest T few first }
  member_node_read _ _ (is_method n t ws throws result x params b s a r c th d hs ha hr named hc ht hd) rest deep flat few ends =
      let tail : List Lexeme = r ++ chosen_word false x n ∷ (c ++ (th ++ d)) in
      let one = length-append s (a ++ tail) in
      let two = length-append a tail in
      let T = method_tail limit room quantifiers (sized t (of_spec depth 1 t)) ws result x n params throws b r c th d hr named hc ht hd rest (omega arith) (omega arith) (omega arith) in
      record { some = some_behind s (a ++ tail) (some_behind a tail T.some); is = λ first. java_read t s hs ws a ha _ _ tail rest T few (omega arith) (omega arith) first }
  member_node_read _ _ (is_constructor n p t ws throws x params b s a c th d hs ha named hc ht hd) rest deep flat few ends =
      let tail : List Lexeme = chosen_word false x n ∷ (c ++ (th ++ d)) in
      let one = length-append s (a ++ tail) in
      let two = length-append a tail in
      let T = constructor_tail limit room quantifiers (sized t (of_spec depth 1 t)) ws x n p params throws b c th d named hc ht hd rest (omega arith) (omega arith) (omega arith) in
      record { some = some_behind s (a ++ tail) (some_behind a tail T.some); is = λ first. java_read t s hs ws a ha _ _ tail rest T few (omega arith) (omega arith) first }
