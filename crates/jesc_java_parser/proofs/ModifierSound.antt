-- What the rules of names and modifiers take.
use Rattle.std.proofs.Common.{◌≡◌, ℕ, Bool, true, false, List, [], ◌∷◌, ◌++◌, refl, append_assoc, inl, inr}
use Rattle.std.proofs.lemmas.Bool.{or_cases}
use Rattle.std.proofs.lemmas.List.{append-nil}
use Rattle.std.specs.Prelude.{codes}
use Rattle.jesc_ast.specs.declared.word.Word.{Word}
use Rattle.jesc_ast.specs.Lexemes.{Lexeme}
use Rattle.jesc_ast.specs.Specifications.{SpellsNames}
use Rattle.jesc_ast.specs.Members.{is_code_modifier, is_note_modifier, SpellsModifier, is_code_word, is_note_word, is_override, SpellsModifiers, no_modifiers, more_modifiers, SpellsNamesAfter, no_names, some_names}
use Rattle.jesc_jml_grammar.specs.declared.mark.Mark.TheVariants as m
use Rattle.jesc_jml_grammar.specs.Steps.{Parser, ◌>>◌, pure, expect}
use Rattle.jesc_jml_grammar.specs.Reading.{Parsed, Start, word_of}
use Rattle.jesc_jml_parser.specs.laws.SoundSteps.{Gives, gives_bind, gives_if, gives_so, took}
use Rattle.jesc_jml_grammar.specs.ClauseFound.{with_word}
use Rattle.jesc_jml_parser.specs.laws.ClauseSoundLists.{TakenAs, TakenUntil, until_takes, separated_takes, one_name, names_at_end}
use Rattle.jesc_java_grammar.specs.declared.member_mark.MemberMark.{MemberMark}
use Rattle.jesc_java_grammar.specs.declared.member_mark.MemberMark.TheVariants as s
use Rattle.jesc_java_grammar.specs.Lexing.{is_word_that, is_word, is_sign, next_is, take_if}
use Rattle.jesc_java_grammar.specs.FileMarks.{member_mark_at, is_modifier, at_modifier, at_code}
use Rattle.jesc_java_grammar.specs.FileReading as spec
use Rattle.jesc_java_parser.proofs.LexingSound.{word_that, took_if, took_this_word, took_this_sign}

-- ---- modifiers

-- it is a modifier with these lexemes
abbrev IsModifier : Lexeme → List Lexeme → Type 0
IsModifier x u = SpellsModifier (word_of x) u

modifier_is : (x : Lexeme) → is_modifier x ≡ true → IsModifier x (x ∷ [])
modifier_is x e =
    elim (or_cases (is_word_that is_code_modifier false x) (is_word_that is_note_modifier true x) e) [
      | inl code ↦ let at = word_that is_code_modifier false x code in rw at.0 (is_code_word x.span x.text at.1)
      | inr note ↦ let at = word_that is_note_modifier true x note in rw at.0 (is_note_word x.span x.text at.1)
    ]

pub both_modifiers : (ws others : List Word) (u v : List Lexeme) → SpellsModifiers ws u → SpellsModifiers others v → SpellsModifiers (ws ++ others) (u ++ v)
both_modifiers _ others _ v no_modifiers h = h
both_modifiers _ others _ v (more_modifiers a ws t u is more) h =
    simp append_assoc (more_modifiers a (ws ++ others) t (u ++ v) is (both_modifiers ws others u v more h))

pub one_modifier : (w : Word) (u : List Lexeme) → SpellsModifier w u → SpellsModifiers (w ∷ []) u
one_modifier w u h =
    let one : SpellsModifiers (w ∷ []) (u ++ []) = more_modifiers w [] u [] h no_modifiers in
    rw append-nil at one

module _ (limit room : ℕ) (expression : Bool → ℕ → ℕ → ℕ → Start → Parser Parsed) (k : ℕ) where
  override_takes : (ts : List Lexeme) → Gives (spec.override limit room expression k ts) (TakenAs IsModifier ts)
  unfolding spec.override
  override_takes ts =
      gives_bind _ _ (take_if (is_sign (codes "@") false) ts) (took_this_sign (codes "@") false ts) (λ p mid first.
      gives_so _ (TakenAs IsModifier ts) (take_if (is_word (codes "Override") false) mid) (took_this_word (codes "Override") false mid) (λ x rest h.
      record { taken = p ∷ x ∷ []; parts = rw (first.at, h.at) refl; is = rw (first.is, h.is) (is_override p.span x.span) }))

  plain_modifier_takes : (ts : List Lexeme) → Gives (take_if is_modifier ts) (TakenAs IsModifier ts)
  plain_modifier_takes ts =
      gives_so _ (TakenAs IsModifier ts) (take_if is_modifier ts) (took_if is_modifier ts) (λ x rest h.
      record { taken = x ∷ []; parts = h.at; is = modifier_is x h.passes })

  modifier_by_takes : (mark : MemberMark) (ts : List Lexeme) → Gives (spec.modifier_by limit room expression k mark ts) (TakenAs IsModifier ts)
  modifier_by_takes s.At ts = override_takes ts
  modifier_by_takes _ ts = plain_modifier_takes ts

  modifier_step : (found : List Word) (u ts : List Lexeme) → SpellsModifiers found u
      → Gives (spec.modifier limit room expression k ts) (λ x rest. TakenAs (λ (b : List Word) (v : List Lexeme). SpellsModifiers b (u ++ v)) ts (with_word found x) rest)
  unfolding spec.modifier
  modifier_step found u ts h =
      gives_so (TakenAs IsModifier ts) (λ x rest. TakenAs (λ (b : List Word) (v : List Lexeme). SpellsModifiers b (u ++ v)) ts (with_word found x) rest)
      (spec.modifier limit room expression k ts) (modifier_by_takes (member_mark_at ts) ts) (λ x rest g.
      record { taken = g.taken; parts = g.parts; is = both_modifiers found (word_of x ∷ []) u g.taken h (one_modifier (word_of x) g.taken g.is) })

  -- behind modifiers that these lexemes spell
  pub modifiers_take : (ws : List Word) (before : List Lexeme) → SpellsModifiers ws before → (all ts : List Lexeme) → all ≡ before ++ ts
      → Gives (spec.modifiers limit room expression k ws ts) (TakenAs SpellsModifiers all)
  unfolding spec.modifiers
  modifiers_take ws before are all ts parts =
      gives_so (TakenUntil at_modifier SpellsModifiers all) (TakenAs SpellsModifiers all) (spec.modifiers limit room expression k ws ts)
      (until_takes at_modifier (spec.modifier limit room expression k) with_word SpellsModifiers (λ found u some h e. modifier_step found u some h) limit ws all before ts parts are)
      (λ found rest h. record { taken = h.taken; parts = h.parts; is = h.is })

  -- ---- names

  names_take : (ts : List Lexeme) → Gives (spec.names limit room expression k ts) (TakenAs (SpellsNames false) ts)
  unfolding spec.names
  names_take ts =
      gives_so (TakenUntil (at_code m.Comma) (SpellsNames false) ts) (TakenAs (SpellsNames false) ts) (spec.names limit room expression k ts)
      (separated_takes (at_code m.Comma) (expect false m.Comma) (expect false m.Name) with_word (SpellsNames false)
      (λ ws u all h e.
      gives_bind _ _ (expect false m.Comma all) (took false m.Comma all) (λ p mid comma.
      gives_so _ (λ x rest. TakenAs (λ (b : List Word) (v : List Lexeme). SpellsNames false b (u ++ v)) all (with_word ws x) rest) (expect false m.Name mid) (took false m.Name mid) (λ x rest named.
      record { taken = p ∷ x ∷ []; parts = rw (comma.at, named.at) refl; is = names_at_end false ws u p x h comma.mark named.mark })))
      limit [] ts
      (gives_so _ (λ x rest. TakenAs (SpellsNames false) ts (with_word [] x) rest) (expect false m.Name ts) (took false m.Name ts) (λ x rest named.
      record { taken = x ∷ []; parts = named.at; is = one_name false x named.mark })))
      (λ ws rest h. record { taken = h.taken; parts = h.parts; is = h.is })

  some_names_take : (text : List ℕ) (ts : List Lexeme) → Gives ((take_if (is_word text false) >> spec.names limit room expression k) ts) (TakenAs (SpellsNamesAfter text) ts)
  some_names_take text ts =
      gives_bind _ _ (take_if (is_word text false) ts) (took_this_word text false ts) (λ r mid first.
      gives_so (TakenAs (SpellsNames false) mid) (TakenAs (SpellsNamesAfter text) ts) (spec.names limit room expression k mid) (names_take mid) (λ ws rest h.
      record { taken = r ∷ h.taken; parts = rw (first.at, h.parts) refl; is = rw first.is (some_names r.span ws h.taken h.is) }))

  pub names_after_takes : (text : List ℕ) (ts : List Lexeme) → Gives (spec.names_after limit room expression k text ts) (TakenAs (SpellsNamesAfter text) ts)
  unfolding spec.names_after
  names_after_takes text ts =
      gives_if (next_is (is_word text false) ts) _ (pure []) (TakenAs (SpellsNamesAfter text) ts) ts
      (λ e. some_names_take text ts)
      (λ e. record { taken = []; parts = refl; is = no_names })
