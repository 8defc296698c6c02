-- What the rules of modifiers take, and which modifiers stand before a member of an annotation.
use Rattle.std.proofs.Common.{◌≡◌, ℕ, true, List, [], ◌∷◌, ◌++◌, refl, sym, ap, ◌∙◌, append_assoc, inl, inr}
use Rattle.std.proofs.lemmas.Bool.{and_parts, or_cases}
use Rattle.std.proofs.lemmas.List.{append-nil}
use Rattle.std.proofs.lemmas.Slice.Eq.{bytes_eq-Decides}
use Rattle.std.specs.Prelude.{IsTrue, codes, ◌&&◌, ◌||◌, bytes_eq}
use Rattle.jesc_ast.specs.declared.word.Word.{Word}
use Rattle.jesc_ast.specs.Lexemes.{Lexeme, chosen_word, kept}
use Rattle.jesc_ast.specs.Specifications.{is_visibility, SpellsVisibility, no_visibility, some_visibility}
use Rattle.jesc_ast.specs.Members.{is_note_modifier, SpellsModifier, is_code_word, is_note_word, is_override, SpellsModifiers, no_modifiers, more_modifiers, SpellsNoteModifiers, no_note_modifiers, more_note_modifiers, SpellsInvariantModifiers, no_invariant_modifiers, visibility_alone, instance_alone, visibility_and_instance}
use Rattle.jesc_jml_grammar.specs.Steps.{Parser, take_one, refuse}
use Rattle.jesc_jml_grammar.specs.Reading.{Parsed, Start, word_of}
use Rattle.jesc_jml_grammar.specs.ClauseMarks.{word_at, is_modifier_word}
use Rattle.jesc_jml_grammar.specs.ClauseReading as spec
use Rattle.jesc_jml_grammar.specs.ClauseReading.{with_word, is_visibility_word, is_instance_word, allow_invariant, allow_represents, allow_field, first_word}
use Rattle.jesc_jml_parser.specs.laws.SoundSteps.{Gives, gives_if, gives_so}
use Rattle.jesc_jml_parser.specs.laws.ClauseSoundMarks.{Modifies, modifies}
use Rattle.jesc_jml_parser.specs.laws.ClauseSoundLists.{took_one_word, TookWord, TakenAs, TakenUntil, until_takes}

-- ---- what is read

-- the words that stood before, and those that these lexemes spell
pub record AreModifiers (before words : List Word) (u : List Lexeme) : Type 0 where
  pub after : List Word
  pub made : words ≡ before ++ after
  pub spelled : SpellsNoteModifiers after u

-- a lexeme that is a modifier
pub record TookModifier (ts : List Lexeme) (x : Lexeme) (rest : List Lexeme) : Type 0 where
  pub at : ts ≡ x ∷ rest
  pub is : Modifies x

modifiers_at_end : (ws : List Word) (u : List Lexeme) (x : Lexeme) → SpellsNoteModifiers ws u → Modifies x → SpellsNoteModifiers (ws ++ word_of x ∷ []) (u ++ x ∷ [])
modifiers_at_end _ _ x no_note_modifiers is = rw is.at (more_note_modifiers x.span x.text [] [] is.modifier no_note_modifiers)
modifiers_at_end _ _ x (more_note_modifiers s y ws u one more) is = more_note_modifiers s y (ws ++ word_of x ∷ []) (u ++ x ∷ []) one (modifiers_at_end ws u x more is)

module _ (limit room : ℕ) (inner : ℕ → ℕ → Start → Parser Parsed) (k : ℕ) where
  modifier_takes : (ts : List Lexeme) → Gives (spec.modifier limit room inner k ts) (TookModifier ts)
  unfolding spec.modifier
  modifier_takes ts =
      gives_if (is_modifier_word (word_at ts)) take_one refuse (TookModifier ts) ts
      (λ e. gives_so (TookWord (word_at ts) ts) (TookModifier ts) (take_one ts) (took_one_word ts) (λ x rest h.
      record { at = h.at; is = modifies (word_at ts) e x h.word }))
      (λ e. tt)

  pub modifiers_take : (ws : List Word) (ts : List Lexeme)
      → Gives (spec.modifiers limit room inner k ws ts) (TakenUntil (λ all. is_modifier_word (word_at all)) (AreModifiers ws) ts)
  unfolding spec.modifiers
  modifiers_take ws ts =
      until_takes (λ all. is_modifier_word (word_at all)) (spec.modifier limit room inner k) with_word (AreModifiers ws)
      (λ found u all h e.
      gives_so _ (λ x rest. TakenAs (λ (b : List Word) (v : List Lexeme). AreModifiers ws b (u ++ v)) all (with_word found x) rest) (spec.modifier limit room inner k all)
      (modifier_takes all) (λ x rest g.
      record {
        taken = x ∷ [];
        parts = g.at;
        is = record { after = h.after ++ word_of x ∷ []; made = rw h.made (append_assoc ws h.after (word_of x ∷ [])); spelled = modifiers_at_end h.after u x h.spelled g.is };
      }))
      limit ws ts [] ts refl
      (record { after = []; made = sym (append-nil ws); spelled = no_note_modifiers })

-- ---- modifiers of any member

pub all_modifiers : (ws : List Word) (u : List Lexeme) → SpellsNoteModifiers ws u → SpellsModifiers ws u
all_modifiers _ _ no_note_modifiers = no_modifiers
all_modifiers _ _ (more_note_modifiers s x ws u one more) = more_modifiers (kept true x s) ws (chosen_word true x s ∷ []) u (is_note_word s x one) (all_modifiers ws u more)

-- a modifier that stands in an annotation
record IsNoteModifier (a : Word) (u : List Lexeme) : Type 0 where
  lexemes : u ≡ chosen_word true a.text a.span ∷ []
  word : a ≡ kept true a.text a.span
  modifier : IsTrue (is_note_modifier a.text)

in_note : (a : Word) (u : List Lexeme) → SpellsModifier a u → a.note ≡ true → IsNoteModifier a u
in_note _ _ (is_code_word s x one) e = absurd cc
in_note _ _ (is_note_word s x one) e = record { lexemes = refl; word = refl; modifier = one }
in_note _ _ (is_override at s) e = absurd cc

pub field_modifiers : (ws : List Word) (u : List Lexeme) → SpellsModifiers ws u → allow_field ws ≡ true → SpellsNoteModifiers ws u
field_modifiers _ _ no_modifiers e = no_note_modifiers
field_modifiers _ _ (more_modifiers a ws u v is more) e =
    let both = and_parts a.note (allow_field ws) e in
    let at = in_note a u is both.0 in
    rw (at.lexemes, at.word) (more_note_modifiers a.span a.text ws v at.modifier (field_modifiers ws v more both.1))

-- ---- modifiers of an invariant and of a represents clause

instance_is : (a : Word) (u : List Lexeme) → SpellsModifier a u → is_instance_word a ≡ true
    → (a ≡ kept true (codes "instance") a.span) × (u ≡ chosen_word true (codes "instance") a.span ∷ [])
instance_is a u is e =
    let both = and_parts a.note (bytes_eq a.text (codes "instance")) e in
    let at = in_note a u is both.0 in
    let same = (bytes_eq-Decides a.text (codes "instance")).0 both.1 in
    (at.word ∙ ap (λ (z : List ℕ). kept true z a.span) same, at.lexemes ∙ ap (λ (z : List ℕ). chosen_word true z a.span ∷ []) same)

visibility_is : (a : Word) (u : List Lexeme) → SpellsModifier a u → is_visibility_word a ≡ true → IsNoteModifier a u × IsTrue (is_visibility a.text)
visibility_is a u is e =
    let both = and_parts a.note (is_visibility a.text) e in
    (in_note a u is both.0, both.1)

one_modifier : (a : Word) (u : List Lexeme) → SpellsModifier a u → (is_visibility_word a || is_instance_word a) ≡ true → SpellsInvariantModifiers (a ∷ []) (u ++ [])
one_modifier a u is e =
    elim (or_cases (is_visibility_word a) (is_instance_word a) e) [
      | inl seen ↦
          let at = visibility_is a u is seen in
          rw (at.0.lexemes, at.0.word) (visibility_alone a.span a.text at.1)
      | inr instance_word ↦
          let at = instance_is a u is instance_word in
          rw (at.1, at.0) (instance_alone a.span)
    ]

two_modifiers : (a b : Word) (u v : List Lexeme) → SpellsModifier a u → SpellsModifier b v → (is_visibility_word a && is_instance_word b) ≡ true
    → SpellsInvariantModifiers (a ∷ b ∷ []) (u ++ (v ++ []))
two_modifiers a b u v is js e =
    let both = and_parts (is_visibility_word a) (is_instance_word b) e in
    let at = visibility_is a u is both.0 in
    let next = instance_is b v js both.1 in
    rw (at.0.lexemes, at.0.word, next.1, next.0) (visibility_and_instance a.span b.span a.text at.1)

pub invariant_modifiers : (ws : List Word) (u : List Lexeme) → SpellsModifiers ws u → allow_invariant ws ≡ true → SpellsInvariantModifiers ws u
invariant_modifiers _ _ no_modifiers e = no_invariant_modifiers
invariant_modifiers _ _ (more_modifiers a _ u _ is no_modifiers) e = one_modifier a u is e
invariant_modifiers _ _ (more_modifiers a _ u _ is (more_modifiers b _ v _ js no_modifiers)) e = two_modifiers a b u v is js e
invariant_modifiers _ _ (more_modifiers a _ u _ is (more_modifiers b _ v _ js (more_modifiers c ws t r third more))) e = absurd cc

pub represents_modifiers : (ws : List Word) (u : List Lexeme) → SpellsModifiers ws u → allow_represents ws ≡ true → SpellsVisibility (first_word ws) u
represents_modifiers _ _ no_modifiers e = no_visibility
represents_modifiers _ _ (more_modifiers a _ u _ is no_modifiers) e =
    let at = visibility_is a u is e in
    rw (at.0.lexemes, at.0.word) (some_visibility a.span a.text at.1)
represents_modifiers _ _ (more_modifiers a _ u _ is (more_modifiers b ws v t js more)) e = absurd cc
