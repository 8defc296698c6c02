-- The steps of a member in an annotation.
use Rattle.std.proofs.Common.{◌≡◌, ℕ, zero, suc, ◌≤◌, ◌<◌, true, false, not, Option, Some, List, [], ◌∷◌, ◌++◌, length, Ok, refl, sym, ap, ◌∙◌, append_assoc, append-nil, arith, IsTrue, codes}
use Rattle.std.proofs.lemmas.Bool.{and_from, or_left, not-true, both_ways, false_from_ne_true}
use Rattle.std.proofs.lemmas.List.{length-append}
use Rattle.jesc_text.specs.declared.place.Span.{Span}
use Rattle.jesc_ast.specs.declared.word.Word.{Word}
use Rattle.jesc_ast.specs.declared.word.TypeTree.{TypeTree}
use Rattle.jesc_ast.specs.Lexemes.{Lexeme, word, chosen_word, chosen_sign, sign, kept}
use Rattle.jesc_ast.specs.Words.{is_one_of, is_name}
use Rattle.jesc_ast.specs.Trees.{Expression}
use Rattle.jesc_ast.specs.FileTrees.{spec_field, class_invariant, represents}
use Rattle.jesc_ast.specs.Expressions.{SpellsExpression}
use Rattle.jesc_ast.specs.Depth.{depth, nesting, of_option}
use Rattle.jesc_ast.specs.Specifications.{is_visibility, SpellsVisibility, no_visibility, some_visibility}
use Rattle.jesc_ast.specs.Members.{is_note_modifier, SpellsNoteModifiers, no_note_modifiers, more_note_modifiers, SpellsValue, no_value, some_value, SpellsGroups, no_groups, some_groups, SpellsInvariantModifiers, no_invariant_modifiers, visibility_alone, instance_alone, visibility_and_instance}
use Rattle.jesc_jml_grammar.specs.declared.mark.Mark.TheVariants as m
use Rattle.jesc_jml_grammar.specs.declared.note_word.NoteWord.TheVariants as w
use Rattle.jesc_jml_grammar.specs.Steps.{Parser, take_one}
use Rattle.jesc_jml_grammar.specs.Reading.{Parsed, expr}
use Rattle.jesc_jml_parser.specs.laws.CompleteMarks.{took_sign, took_name}
use Rattle.jesc_jml_grammar.specs.ClauseMarks.{plain_word, sign_word, note_word, same_word, word_at, at_word, is_modifier_word, is_represents_sign}
use Rattle.jesc_jml_grammar.specs.ClauseLists.{until}
use Rattle.jesc_jml_grammar.specs.ClauseReading as spec
use Rattle.jesc_jml_grammar.specs.ClauseReading.{with_word, allow_invariant, allow_represents, allow_field, first_word}
use Rattle.jesc_jml_parser.specs.laws.ClauseEdges.{member_goes_on}
use Rattle.jesc_jml_parser.specs.laws.ClauseSoundMarks.{of_one_of, modifies}
use Rattle.jesc_jml_parser.specs.laws.ClauseSoundLists.{end_of, end_of_both}
use Rattle.jesc_jml_parser.specs.laws.ClauseCompleteLists.{read_as, took_note, until_more, until_ends, names_read}
use Rattle.jesc_jml_parser.specs.laws.ClauseCompleteParts.{no_comma, before_semicolon}
use Rattle.jesc_jml_parser.specs.laws.ClauseCompleteClauses.{ended_as}

-- ---- modifiers

modifier_word : (x : List ℕ) → IsTrue (is_note_modifier x) → is_modifier_word (plain_word x) ≡ true
modifier_word x is =
    of_one_of (λ z. is_modifier_word (plain_word z) ≡ true)
    (codes "public" ∷ codes "protected" ∷ codes "private" ∷ codes "pure" ∷ codes "helper" ∷ codes "nullable" ∷ codes "non_null" ∷ codes "spec_public" ∷ codes "spec_protected"
    ∷ codes "instance" ∷ []) x (refl, (refl, (refl, (refl, (refl, (refl, (refl, (refl, (refl, (refl, tt)))))))))) is

-- a text of no modifier is no modifier's word
pub no_modifier_word : (x : List ℕ) (s : Span) → IsTrue (not (is_note_modifier x)) → is_modifier_word (plain_word x) ≡ false
no_modifier_word x s none =
    false_from_ne_true (is_modifier_word (plain_word x))
    (λ yes_. both_ways (is_note_modifier x) (not-true (is_note_modifier x) none) (modifies (plain_word x) yes_ (chosen_word true x s) refl).modifier)

visibility_modifier : (x : List ℕ) → IsTrue (is_visibility x) → IsTrue (is_note_modifier x)
visibility_modifier x is = of_one_of (λ z. IsTrue (is_note_modifier z)) (codes "public" ∷ codes "protected" ∷ codes "private" ∷ []) x (refl, (refl, (refl, tt))) is

pub invariant_allowed : (ws : List Word) (t : List Lexeme) → SpellsInvariantModifiers ws t → SpellsNoteModifiers ws t × (allow_invariant ws ≡ true)
invariant_allowed _ _ no_invariant_modifiers = (no_note_modifiers, refl)
invariant_allowed _ _ (visibility_alone s x is) = (more_note_modifiers s x [] [] (visibility_modifier x is) no_note_modifiers, or_left (is_visibility x) _ is)
invariant_allowed _ _ (instance_alone s) = (more_note_modifiers s (codes "instance") [] [] refl no_note_modifiers, refl)
invariant_allowed _ _ (visibility_and_instance s n x is) = (
  more_note_modifiers s x (kept true (codes "instance") n ∷ []) (word true "instance" n ∷ []) (visibility_modifier x is)
      (more_note_modifiers n (codes "instance") [] [] refl no_note_modifiers),
  and_from (is_visibility x) _ is refl,
)

-- the modifiers of a represents clause
pub record Seen (visibility : Option Word) (t : List Lexeme) : Type 0 where
  pub words : List Word
  pub spelled : SpellsNoteModifiers words t
  pub allowed : allow_represents words ≡ true
  pub first : first_word words ≡ visibility

pub represents_allowed : (visibility : Option Word) (t : List Lexeme) → SpellsVisibility visibility t → Seen visibility t
represents_allowed _ _ no_visibility = record { words = []; spelled = no_note_modifiers; allowed = refl; first = refl }
represents_allowed _ _ (some_visibility s x is) = record {
  words = kept true x s ∷ [];
  spelled = more_note_modifiers s x [] [] (visibility_modifier x is) no_note_modifiers;
  allowed = is;
  first = refl;
}

pub field_allowed : (ws : List Word) (t : List Lexeme) → SpellsNoteModifiers ws t → allow_field ws ≡ true
field_allowed _ _ no_note_modifiers = refl
field_allowed _ _ (more_note_modifiers s x ws u is more) = field_allowed ws u more

module _ (limit room k : ℕ) where
  abbrev modifiers_from : ℕ → List Word → Parser (List Word)
  modifiers_from = until (λ ts. is_modifier_word (word_at ts)) (spec.modifier limit room (expr true limit room) k) with_word

  modifier_step : (x : Lexeme) (ts : List Lexeme) → is_modifier_word (note_word x) ≡ true → spec.modifier limit room (expr true limit room) k (x ∷ ts) ≡ read_as x ts
  unfolding spec.modifier word_at take_one
  modifier_step x ts is = rw is refl

  modifiers_more : (turns : ℕ) (found : List Word) (x : Lexeme) (ts : List Lexeme) → is_modifier_word (note_word x) ≡ true
      → modifiers_from (suc turns) found (x ∷ ts) ≡ modifiers_from turns (with_word found x) ts
  unfolding word_at
  modifiers_more turns found x ts is =
      until_more (λ us. is_modifier_word (word_at us)) (spec.modifier limit room (expr true limit room) k) with_word turns found x (x ∷ ts) ts is (modifier_step x ts is)

  modifiers_so_far : (ws : List Word) (u : List Lexeme) → SpellsNoteModifiers ws u → (turns : ℕ) (found : List Word) (rest : List Lexeme) → length u < turns
      → is_modifier_word (word_at rest) ≡ false → modifiers_from turns found (u ++ rest) ≡ read_as (found ++ ws) rest
  modifiers_so_far _ _ no_note_modifiers turns found rest enough ends =
      until_ends (λ us. is_modifier_word (word_at us)) (spec.modifier limit room (expr true limit room) k) with_word turns found rest enough ends
      ∙ ap (λ (z : List Word). read_as z rest) (sym (append-nil found))
  modifiers_so_far _ _ (more_note_modifiers s x ws u is more) zero found rest enough ends = absurd (omega arith)
  modifiers_so_far _ _ (more_note_modifiers s x ws u is more) (suc turns) found rest enough ends =
      modifiers_more turns found (chosen_word true x s) (u ++ rest) (modifier_word x is)
      ∙ modifiers_so_far ws u more turns (found ++ kept true x s ∷ []) rest (omega arith) ends
      ∙ ap (λ (z : List Word). read_as z rest) (append_assoc found (kept true x s ∷ []) ws)

  pub modifiers_read : (ws : List Word) (u : List Lexeme) → SpellsNoteModifiers ws u → (found : List Word) (rest : List Lexeme) → length u < limit
      → is_modifier_word (word_at rest) ≡ false → spec.modifiers limit room (expr true limit room) k found (u ++ rest) ≡ read_as (found ++ ws) rest
  unfolding spec.modifiers
  modifiers_read ws u h found rest few ends = modifiers_so_far ws u h limit found rest few ends

  -- ---- invariants and represents clauses

  abbrev parse : Parser Parsed
  parse = spec.expression limit room (expr true limit room) k

  pub invariant_step : (ws : List Word) (s p : Span) (e : Parsed) (ts rest : List Lexeme) → allow_invariant ws ≡ true → parse ts ≡ Ok (e, sign true ";" p ∷ rest)
      → spec.form_behind limit room (expr true limit room) k ws (word true "invariant" s ∷ ts) ≡ read_as (ended_as (class_invariant ws e.tree) e.depth p) rest
  unfolding spec.form_behind spec.invariant_behind word_at
  invariant_step ws s p e ts rest allowed read =
      rw (allowed, took_note w.Invariant (word true "invariant" s) ts refl, read, took_sign true m.Semicolon (codes ";") p rest refl) refl

  sign_step : (op : List ℕ) (o : Span) (ts : List Lexeme) → IsTrue (is_one_of (codes "=" ∷ codes "<-" ∷ []) op)
      → spec.represents_sign limit room (expr true limit room) k (chosen_sign true op o ∷ ts) ≡ read_as (chosen_sign true op o) ts
  unfolding spec.represents_sign word_at take_one
  sign_step op o ts is =
      let signs : is_represents_sign (sign_word op) ≡ true = of_one_of (λ z. is_represents_sign (sign_word z) ≡ true) (codes "=" ∷ codes "<-" ∷ []) op (refl, (refl, tt)) is in
      rw signs refl

  pub represents_step : (ws : List Word) (s n o p : Span) (x op : List ℕ) (e : Parsed) (ts rest : List Lexeme) → allow_represents ws ≡ true → IsTrue (is_name x)
      → IsTrue (is_one_of (codes "=" ∷ codes "<-" ∷ []) op) → parse ts ≡ Ok (e, sign true ";" p ∷ rest)
      → spec.form_behind limit room (expr true limit room) k ws (word true "represents" s ∷ chosen_word true x n ∷ chosen_sign true op o ∷ ts)
      ≡ read_as (ended_as (represents (first_word ws) (kept true x n) (kept true op o) e.tree) e.depth p) rest
  unfolding spec.form_behind spec.represents_behind word_at
  represents_step ws s n o p x op e ts rest allowed named is read =
      rw (
        allowed,
        took_note w.Represents (word true "represents" s) (chosen_word true x n ∷ chosen_sign true op o ∷ ts) refl,
        took_name true x n (chosen_sign true op o ∷ ts) named,
        sign_step op o ts is,
        read,
        took_sign true m.Semicolon (codes ";") p rest refl,
      ) refl

  -- ---- fields

  some_value_read : (s p : Span) (e : Expression) (u rest : List Lexeme) (h : SpellsExpression true e u) → depth e ≤ room → nesting e ≤ k → length u ≤ limit
      → spec.value limit room (expr true limit room) k (sign true "=" s ∷ (u ++ sign true ";" p ∷ rest))
      ≡ read_as (record { equals = Some s; e = Some e; depth = depth e }) (sign true ";" p ∷ rest)
  unfolding spec.value spec.some_value word_at same_word
  some_value_read s p e u rest h deep flat few =
      rw (took_note w.Equals (sign true "=" s) (u ++ sign true ";" p ∷ rest) refl, before_semicolon limit room k e u h p rest deep flat few) refl

  pub value_read : (equals : Option Span) (e : Option Expression) (d : List Lexeme) → SpellsValue true equals e d → (p : Span) (rest : List Lexeme) → of_option depth 1 e ≤ room
      → of_option nesting 0 e ≤ k → length d ≤ limit
      → spec.value limit room (expr true limit room) k (d ++ sign true ";" p ∷ rest) ≡ read_as (record { equals = equals; e = e; depth = of_option depth 1 e }) (sign true ";" p ∷ rest)
  unfolding spec.value word_at same_word
  value_read _ _ _ no_value p rest deep flat few = refl
  value_read _ _ _ (some_value s e u h) p rest deep flat few = some_value_read s p e u rest h deep flat (omega arith)

  some_groups_read : (s p : Span) (ws : List Word) (ts rest : List Lexeme) → spec.names limit room (expr true limit room) k ts ≡ Ok (ws, sign true ";" p ∷ rest) → (q : Lexeme)
      → spec.groups limit room (expr true limit room) k q (word true "in" s ∷ ts) ≡ read_as (ended_as ws 0 p) rest
  unfolding spec.groups spec.some_groups word_at same_word
  some_groups_read s p ws ts rest read q = rw (took_note w.In (word true "in" s) ts refl, read, took_sign true m.Semicolon (codes ";") p rest refl) refl

  no_groups_read : (q : Lexeme) (rest : List Lexeme) → at_word w.In rest ≡ false → spec.groups limit room (expr true limit room) k q rest ≡ read_as (ended_as [] 0 q.span) rest
  unfolding spec.groups
  no_groups_read q rest none = rw none refl

  pub groups_read : (ws : List Word) (ty : TypeTree) (y : Word) (equals : Option Span) (value : Option Expression) (gs : List Word) (g : List Lexeme) → SpellsGroups gs g → (q : Lexeme)
      (rest : List Lexeme) → length g ≤ limit → member_goes_on (spec_field ws ty y equals value gs) (word_at rest) ≡ false
      → spec.groups limit room (expr true limit room) k q (g ++ rest) ≡ read_as (ended_as gs 0 (end_of q.span g)) rest
  groups_read ws ty y equals value _ _ no_groups q rest few ends = no_groups_read q rest ends
  groups_read ws ty y equals value _ _ (some_groups s p gs u h) q rest few ends =
      ap (λ (z : List Lexeme). spec.groups limit room (expr true limit room) k q (word true "in" s ∷ z)) (append_assoc u (sign true ";" p ∷ []) rest)
      ∙ some_groups_read s p gs (u ++ sign true ";" p ∷ rest) rest
      (names_read limit room k gs u h (sign true ";" p ∷ rest) (omega (arith, length-append {A = Lexeme})) (no_comma p rest)) q
      ∙ ap (λ (z : Span). read_as (ended_as gs 0 z) rest) (sym (end_of_both s u (sign true ";" p ∷ [])))
