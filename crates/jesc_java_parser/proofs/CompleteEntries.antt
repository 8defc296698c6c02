-- By its first lexemes a member is read as what it is.
use Rattle.std.proofs.Common.{◌≡◌, ℕ, ◌<◌, Bool, true, false, List, [], ◌∷◌, ◌++◌, length, Ok, Err, refl, ap, ◌∙◌, arith, codes, IsTrue, inl, inr}
use Rattle.std.specs.Prelude.{◌⊎◌}
use Rattle.std.proofs.lemmas.Bool.{cases_Bool, and_right}
use Rattle.jesc_ast.specs.declared.word.Word.{Word}
use Rattle.jesc_ast.specs.Lexemes.{Lexeme, chosen_word, kept}
use Rattle.jesc_ast.specs.SpecTrees.{Case, Specification}
use Rattle.jesc_ast.specs.FileTrees.{MemberForm}
use Rattle.jesc_ast.specs.Members.{is_note_modifier, is_code_word, is_note_word, is_override, SpellsModifiers, no_modifiers, more_modifiers, SpellsNoteModifiers, no_note_modifiers, more_note_modifiers}
use Rattle.jesc_jml_grammar.specs.declared.fault.Fault.TheVariants.{Unexpected}
use Rattle.jesc_jml_grammar.specs.declared.note_word.NoteWord.{NoteWord}
use Rattle.jesc_jml_grammar.specs.declared.note_word.NoteWord.TheVariants as w
use Rattle.jesc_jml_grammar.specs.Steps.{Parser}
use Rattle.jesc_jml_grammar.specs.ClauseMarks.{plain_word, note_word, word_at, same_word, is_heading_word, is_modifier_word}
use Rattle.jesc_jml_grammar.specs.ClauseLists.{separated}
use Rattle.jesc_jml_grammar.specs.ClauseReading as clauses
use Rattle.jesc_jml_grammar.specs.ClauseReading.{Sized, Ended, with_word}
use Rattle.jesc_jml_parser.specs.laws.ClauseEdges.{has_none, cases_go_on, spec_goes_on}
use Rattle.jesc_jml_parser.specs.laws.ClauseSoundMarks.{of_one_of}
use Rattle.jesc_jml_parser.specs.laws.ClauseSoundLists.{IsSome}
use Rattle.jesc_jml_parser.specs.laws.ClauseCompleteLists.{took_note}
use Rattle.jesc_jml_parser.specs.laws.ClauseCompleteMembers as noted
use Rattle.jesc_jml_parser.specs.laws.ClauseCompleteSpecs.{specification_behind_is}
use Rattle.jesc_java_grammar.specs.FileReading as spec
use Rattle.jesc_java_grammar.specs.FileReading.{expression_of, no_spec, some_spec}
use Rattle.jesc_java_parser.proofs.CompleteJava.{Specified}

-- ---- words

modifier_word : (x : List ℕ) → IsTrue (is_note_modifier x) → is_modifier_word (plain_word x) ≡ true
modifier_word x is =
    of_one_of (λ z. is_modifier_word (plain_word z) ≡ true)
    (codes "public" ∷ codes "protected" ∷ codes "private" ∷ codes "pure" ∷ codes "helper" ∷ codes "nullable" ∷ codes "non_null" ∷ codes "spec_public" ∷ codes "spec_protected"
    ∷ codes "instance" ∷ []) x (refl, (refl, (refl, (refl, (refl, (refl, (refl, (refl, (refl, (refl, tt)))))))))) is

modifier_no_heading : (word : NoteWord) → is_modifier_word word ≡ true → is_heading_word word ≡ false
modifier_no_heading w.Visibility e = refl
modifier_no_heading w.Instance e = refl
modifier_no_heading w.Modifier e = refl
modifier_no_heading _ e = absurd cc

-- a modifier, or no word of annotations
abbrev is_quiet : NoteWord → Bool
is_quiet w.Other = true
is_quiet word = is_modifier_word word

cases_quiet : (cs : List Case) (word : NoteWord) → is_quiet word ≡ true → cases_go_on cs word ≡ false
unfolding same_word
cases_quiet [] word q = refl
cases_quiet (c ∷ d ∷ cs) word q = cases_quiet (d ∷ cs) word q
cases_quiet (c ∷ []) w.Other q = and_right (has_none c.promises) false refl
cases_quiet (c ∷ []) w.Visibility q = and_right (has_none c.promises) false refl
cases_quiet (c ∷ []) w.Instance q = and_right (has_none c.promises) false refl
cases_quiet (c ∷ []) w.Modifier q = and_right (has_none c.promises) false refl
cases_quiet (c ∷ []) _ q = absurd cc

quiet_modifier : (word : NoteWord) → is_modifier_word word ≡ true → is_quiet word ≡ true
quiet_modifier w.Visibility e = refl
quiet_modifier w.Instance e = refl
quiet_modifier w.Modifier e = refl
quiet_modifier _ e = absurd cc

modifiers_quiet : (ws : List Word) (a : List Lexeme) → SpellsModifiers ws a → (ts : List Lexeme) → word_at ts ≡ w.Other → is_quiet (word_at (a ++ ts)) ≡ true
unfolding word_at
modifiers_quiet _ _ no_modifiers ts other = ap is_quiet other
modifiers_quiet _ _ (more_modifiers _ ws _ b (is_code_word n x is) more) ts other = refl
modifiers_quiet _ _ (more_modifiers _ ws _ b (is_note_word n x is) more) ts other = quiet_modifier (plain_word x) (modifier_word x is)
modifiers_quiet _ _ (more_modifiers _ ws _ b (is_override at n) more) ts other = refl

-- no specification goes on before modifiers and what stands in code
pub spec_ends : (t : Specification) (ws : List Word) (a : List Lexeme) → SpellsModifiers ws a → (ts : List Lexeme) → word_at ts ≡ w.Other → spec_goes_on t (word_at (a ++ ts)) ≡ false
spec_ends t ws a h ts other = cases_quiet t.cases (word_at (a ++ ts)) (modifiers_quiet ws a h ts other)

-- ---- behind a specification

module _ (limit room quantifiers : ℕ) where
  abbrev pub form : Parser (Ended MemberForm)
  form = spec.form limit room (expression_of limit) quantifiers

  abbrev pub java_form : Specified → List Word → Parser (Ended MemberForm)
  java_form = spec.java_form limit room (expression_of limit) quantifiers

  abbrev specification : Parser (Sized Specification)
  specification = clauses.specification limit room (expression_of limit true room) quantifiers

  abbrev begins_case : NoteWord → Bool
  begins_case w.Also = true
  begins_case w.Visibility = true
  begins_case w.Behavior = true
  begins_case w.NormalBehavior = true
  begins_case w.ExceptionalBehavior = true
  begins_case w.Requires = true
  begins_case w.Ensures = true
  begins_case w.Assignable = true
  begins_case w.Signals = true
  begins_case w.SignalsOnly = true
  begins_case _ = false

  no_case : (word : NoteWord) (ts : List Lexeme) → begins_case word ≡ false
      → (same_word word w.Also ≡ false) × (clauses.case_by limit room (expression_of limit true room) quantifiers word ts ≡ Err (Unexpected (length ts)))
  unfolding same_word
  no_case w.Also ts b = absurd cc
  no_case w.Visibility ts b = absurd cc
  no_case w.Behavior ts b = absurd cc
  no_case w.NormalBehavior ts b = absurd cc
  no_case w.ExceptionalBehavior ts b = absurd cc
  no_case w.Requires ts b = absurd cc
  no_case w.Ensures ts b = absurd cc
  no_case w.Assignable ts b = absurd cc
  no_case w.Signals ts b = absurd cc
  no_case w.SignalsOnly ts b = absurd cc
  no_case _ ts b = (refl, refl)

  no_cases : (ts : List Lexeme) → clauses.case_by limit room (expression_of limit true room) quantifiers (word_at ts) ts ≡ Err (Unexpected (length ts))
      → clauses.specification_of limit room (expression_of limit true room) quantifiers false ts ≡ Err (Unexpected (length ts))
  unfolding clauses.specification_of clauses.cases separated clauses.one_case
  no_cases ts stop = rw stop refl

  first_case : (ts : List Lexeme) → same_word (word_at ts) w.Also ≡ false
      → specification ts ≡ clauses.specification_of limit room (expression_of limit true room) quantifiers false ts
  unfolding clauses.specification
  first_case ts none = rw none refl

  refused : (ts : List Lexeme) → begins_case (word_at ts) ≡ false → specification ts ≡ Err (Unexpected (length ts))
  refused ts b = let none = no_case (word_at ts) ts b in first_case ts none.0 ∙ no_cases ts none.1

  by_word : (word : NoteWord) (ts : List Lexeme) → begins_case word ≡ true
      → (word ≡ w.Visibility) ⊎ (spec.form_by limit room (expression_of limit) quantifiers word ts ≡ spec.specified_form limit room (expression_of limit) quantifiers ts)
  by_word w.Visibility ts b = inl refl
  by_word w.Also ts b = inr refl
  by_word w.Behavior ts b = inr refl
  by_word w.NormalBehavior ts b = inr refl
  by_word w.ExceptionalBehavior ts b = inr refl
  by_word w.Requires ts b = inr refl
  by_word w.Ensures ts b = inr refl
  by_word w.Assignable ts b = inr refl
  by_word w.Signals ts b = inr refl
  by_word w.SignalsOnly ts b = inr refl
  by_word _ ts b = absurd cc

  specified_is : (t : Sized Specification) (ts rest : List Lexeme) → specification ts ≡ Ok (t, rest)
      → spec.specified_form limit room (expression_of limit) quantifiers ts ≡ java_form (some_spec t) [] rest
  unfolding spec.specified_form
  specified_is t ts rest read = rw read refl

  no_heading : (v : Lexeme) (ts : List Lexeme) → is_heading_word (word_at ts) ≡ false
      → clauses.specification_behind limit room (expression_of limit true room) quantifiers v ts ≡ Err (Unexpected (length ts))
  unfolding clauses.specification_behind clauses.case_behind clauses.heading
  no_heading v ts none = rw none refl

  seen_heading : (t : Sized Specification) (v : Lexeme) (ts rest : List Lexeme) → note_word v ≡ w.Visibility → is_heading_word (word_at ts) ≡ true
      → clauses.specification_behind limit room (expression_of limit true room) quantifiers v ts ≡ Ok (t, rest)
      → spec.visible_form limit room (expression_of limit) quantifiers (v ∷ ts) ≡ java_form (some_spec t) [] rest
  unfolding spec.visible_form spec.specified_behind
  seen_heading t v ts rest seen is read = rw (took_note w.Visibility v ts seen) (rw is (rw read refl))

  visible_read : (t : Sized Specification) (ts rest : List Lexeme) → word_at ts ≡ w.Visibility → specification ts ≡ Ok (t, rest)
      → spec.visible_form limit room (expression_of limit) quantifiers ts ≡ java_form (some_spec t) [] rest
  unfolding word_at
  visible_read t [] rest seen read = absurd cc
  visible_read t (v ∷ ts) rest seen read =
      let behind = specification_behind_is limit room quantifiers v ts seen ∙ read in
      elim (cases_Bool (is_heading_word (word_at ts))) [
        | inl is ↦ seen_heading t v ts rest seen is behind
        | inr none ↦ absurd (cc (behind, no_heading v ts none))
      ]

  -- what a specification is read before is a method or a constructor
  pub specified_read : (t : Sized Specification) (ts rest : List Lexeme) → specification ts ≡ Ok (t, rest) → form ts ≡ java_form (some_spec t) [] rest
  unfolding spec.form
  specified_read t ts rest read = elim (cases_Bool (begins_case (word_at ts))) [
    | inl b ↦ elim (by_word (word_at ts) ts b) [
      | inl seen ↦ rw seen (visible_read t ts rest seen read)
      | inr go ↦ go ∙ specified_is t ts rest read
    ]
    | inr none ↦ absurd (cc (read, refused ts none))
  ]

  -- ---- behind modifiers of annotations

  abbrev noted_by : List Word → NoteWord → Parser (Ended MemberForm)
  noted_by = spec.noted_by limit room (expression_of limit) quantifiers

  pub noted_is : (ws : List Word) (front : List Lexeme) → SpellsNoteModifiers ws front → (found : List Word) (more : List Lexeme) → length front < limit
      → is_modifier_word (word_at more) ≡ false
      → spec.noted_form limit room (expression_of limit) quantifiers found (front ++ more) ≡ noted_by (found ++ ws) (word_at more) more
  unfolding spec.noted_form
  noted_is ws front h found more few none = rw (noted.modifiers_read limit room quantifiers ws front h found more few none) refl

  modifiers_no_heading : (ws : List Word) (u : List Lexeme) → SpellsNoteModifiers ws u → (more : List Lexeme) → is_heading_word (word_at more) ≡ false
      → is_heading_word (word_at (u ++ more)) ≡ false
  unfolding word_at
  modifiers_no_heading _ _ no_note_modifiers more none = none
  modifiers_no_heading _ _ (more_note_modifiers n x ws u is h) more none = modifier_no_heading (plain_word x) (modifier_word x is)

  seen_or : (word : NoteWord) → is_modifier_word word ≡ true
      → (word ≡ w.Visibility) ⊎ ((ts : List Lexeme) → spec.form_by limit room (expression_of limit) quantifiers word ts ≡ spec.noted_form limit room (expression_of limit) quantifiers [] ts)
  seen_or w.Visibility e = inl refl
  seen_or w.Instance e = inr (λ ts. refl)
  seen_or w.Modifier e = inr (λ ts. refl)
  seen_or _ e = absurd cc

  visible_is : (v : Lexeme) (ts : List Lexeme) → note_word v ≡ w.Visibility → is_heading_word (word_at ts) ≡ false
      → spec.visible_form limit room (expression_of limit) quantifiers (v ∷ ts) ≡ spec.noted_form limit room (expression_of limit) quantifiers (with_word [] v) ts
  unfolding spec.visible_form
  visible_is v ts seen none = rw (took_note w.Visibility v ts seen) (rw none refl)

  pub noted_read : (ws : List Word) (front : List Lexeme) → SpellsNoteModifiers ws front → IsSome front → (more : List Lexeme) → length front < limit
      → is_modifier_word (word_at more) ≡ false → is_heading_word (word_at more) ≡ false → form (front ++ more) ≡ noted_by ws (word_at more) more
  unfolding spec.form word_at
  noted_read _ _ no_note_modifiers some more few none no_case = absurd some
  noted_read _ _ (more_note_modifiers n x ws u is h) some more few none no_case = elim (seen_or (plain_word x) (modifier_word x is)) [
    | inl seen ↦ rw seen (visible_is (chosen_word true x n) (u ++ more) seen (modifiers_no_heading ws u h more no_case) ∙ noted_is ws u h (kept true x n ∷ []) more (omega arith) none)
    | inr go ↦ go (chosen_word true x n ∷ (u ++ more)) ∙ noted_is (kept true x n ∷ ws) (chosen_word true x n ∷ u) (more_note_modifiers n x ws u is h) [] more few none
  ]
