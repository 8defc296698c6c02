-- Modifiers and lists of names are read, and what the lexemes behind them are.
use Rattle.std.proofs.Common.{◌≡◌, ℕ, zero, suc, ◌≤◌, ◌<◌, true, false, List, [], ◌∷◌, ◌++◌, length, length-append, Ok, refl, sym, ap, ◌∙◌, arith, append_assoc, append-nil, codes, bytes_eq, IsTrue}
use Rattle.std.proofs.lemmas.Bool.{or_right}
use Rattle.jesc_text.specs.declared.place.Span.{Span}
use Rattle.jesc_ast.specs.declared.word.Word.{Word}
use Rattle.jesc_ast.specs.declared.word.TypeTree.{TypeTree}
use Rattle.jesc_ast.specs.Lexemes.{Lexeme, word, sign, chosen_word, kept}
use Rattle.jesc_ast.specs.Words.{is_name, is_primitive, is_type_word}
use Rattle.jesc_ast.specs.Expressions.{SpellsType, is_plain_type, is_array_type}
use Rattle.jesc_ast.specs.Specifications.{SpellsNames, last_name, first_name}
use Rattle.jesc_ast.specs.Members.{SpellsModifier, is_code_word, is_note_word, is_override, SpellsModifiers, no_modifiers, more_modifiers, SpellsNoteModifiers, no_note_modifiers, more_note_modifiers, SpellsNamesAfter, no_names, some_names}
use Rattle.jesc_jml_grammar.specs.declared.mark.Mark.TheVariants as m
use Rattle.jesc_jml_grammar.specs.declared.note_word.NoteWord.TheVariants as w
use Rattle.jesc_jml_grammar.specs.Steps.{Parser, mark_at, same_mark, expect}
use Rattle.jesc_jml_grammar.specs.Reading.{word_of}
use Rattle.jesc_jml_parser.specs.laws.CompleteMarks.{took_sign, took_name}
use Rattle.jesc_jml_grammar.specs.ClauseMarks.{word_at}
use Rattle.jesc_jml_grammar.specs.ClauseLists.{until, separated}
use Rattle.jesc_jml_grammar.specs.ClauseReading.{with_word}
use Rattle.jesc_jml_parser.specs.laws.ClauseCompleteLists.{read_as, until_more, until_ends, separated_ends, separated_more}
use Rattle.jesc_java_grammar.specs.declared.member_mark.MemberMark.{MemberMark}
use Rattle.jesc_java_grammar.specs.declared.member_mark.MemberMark.TheVariants as s
use Rattle.jesc_java_grammar.specs.Lexing.{is_word, is_sign, next_is}
use Rattle.jesc_java_grammar.specs.FileMarks.{member_word_mark, member_mark_at, is_modifier, at_modifier, at_code}
use Rattle.jesc_java_grammar.specs.FileReading as spec
use Rattle.jesc_java_grammar.specs.FileReading.{expression_of}
use Rattle.jesc_java_parser.proofs.CompleteLexing.{took_if, found_none, none_of}

-- ---- marks

abbrev pub code_modifiers : List (List ℕ)
code_modifiers = codes "public" ∷ codes "protected" ∷ codes "private" ∷ codes "static" ∷ codes "final" ∷ codes "abstract" ∷ []

abbrev other_words : List (List ℕ × MemberMark)
other_words = (codes "void", s.Void) ∷ (codes "class", s.Class) ∷ (codes "interface", s.Interface) ∷ []

type_word : (x : List ℕ) → is_type_word x ≡ true → member_word_mark x ≡ s.Other
type_word x t = rw (none_of is_type_word code_modifiers x refl t) (found_none is_type_word other_words s.Other x refl t)

pub type_member : {t : TypeTree} {u : List Lexeme} → SpellsType false t u → (rest : List Lexeme) → member_mark_at (u ++ rest) ≡ s.Other
unfolding member_mark_at
type_member (is_plain_type s x t) rest = type_word x t
type_member (is_array_type s p q x t) rest = type_word x t

pub name_member : (x : List ℕ) (n : Span) (rest : List Lexeme) → IsTrue (is_name x) → member_mark_at (chosen_word false x n ∷ rest) ≡ s.Other
unfolding member_mark_at
name_member x n rest named = type_word x (or_right (is_primitive x) (is_name x) named)

-- ---- modifiers

record ReadsModifier (limit room quantifiers : ℕ) (v : Word) (u rest : List Lexeme) : Type 0 where
  found : Lexeme
  there : at_modifier (u ++ rest) ≡ true
  some : 1 ≤ length u
  is : spec.modifier limit room (expression_of limit) quantifiers (u ++ rest) ≡ Ok (found, rest)
  word : word_of found ≡ v

module _ (limit room quantifiers : ℕ) where
  modifier_read : (v : Word) (u rest : List Lexeme) → SpellsModifier v u → ReadsModifier limit room quantifiers v u rest
  unfolding spec.modifier spec.override member_mark_at
  modifier_read _ _ rest (is_code_word n x is) = record {
    found = chosen_word false x n;
    there = rw is refl;
    some = omega arith;
    is = rw is (took_if is_modifier (chosen_word false x n) rest (rw is refl));
    word = refl;
  }
  modifier_read _ _ rest (is_note_word n x is) = record {
    found = chosen_word true x n;
    there = rw is refl;
    some = omega arith;
    is = rw is (took_if is_modifier (chosen_word true x n) rest is);
    word = refl;
  }
  modifier_read _ _ rest (is_override at n) = record {
    found = word false "Override" n;
    there = refl;
    some = omega arith;
    is = rw (took_if (is_sign (codes "@") false) (sign false "@" at) (word false "Override" n ∷ rest) refl) (took_if (is_word (codes "Override") false) (word false "Override" n) rest refl);
    word = refl;
  }

  modifiers_from : (ws : List Word) (u : List Lexeme) → SpellsModifiers ws u → (turns : ℕ) (found : List Word) (rest : List Lexeme) → length u < turns → at_modifier rest ≡ false
      → until at_modifier (spec.modifier limit room (expression_of limit) quantifiers) with_word turns found (u ++ rest) ≡ read_as (found ++ ws) rest
  modifiers_from _ _ no_modifiers turns found rest enough none =
      until_ends at_modifier (spec.modifier limit room (expression_of limit) quantifiers) with_word turns found rest enough none
      ∙ ap (λ (z : List Word). read_as z rest) (sym (append-nil found))
  modifiers_from _ _ (more_modifiers v ws a b h more) zero found rest enough none = absurd (omega arith)
  modifiers_from _ _ (more_modifiers v ws a b h more) (suc turns) found rest enough none =
      let R = modifier_read v a (b ++ rest) h in
      let item = spec.modifier limit room (expression_of limit) quantifiers in
      ap (until at_modifier item with_word (suc turns) found) (append_assoc a b rest)
      ∙ until_more at_modifier item with_word turns found R.found (a ++ (b ++ rest)) (b ++ rest) R.there R.is
      ∙ ap (λ (z : Word). until at_modifier item with_word turns (found ++ z ∷ []) (b ++ rest)) R.word
      ∙ modifiers_from ws b more turns (found ++ v ∷ []) rest (omega (arith, length-append a b, R.some)) none
      ∙ ap (λ (z : List Word). read_as z rest) (append_assoc found (v ∷ []) ws)

  pub modifiers_read : (ws : List Word) (u : List Lexeme) → SpellsModifiers ws u → (found : List Word) (rest : List Lexeme) → length u < limit → at_modifier rest ≡ false
      → spec.modifiers limit room (expression_of limit) quantifiers found (u ++ rest) ≡ read_as (found ++ ws) rest
  unfolding spec.modifiers
  modifiers_read ws u h found rest short none = modifiers_from ws u h limit found rest short none

-- the modifiers of annotations that stand first, and those behind them
pub record Split (ws : List Word) (u rest : List Lexeme) : Type 0 where
  pub noted : List Word
  pub front : List Lexeme
  pub others : List Word
  pub back : List Lexeme
  pub words : noted ++ others ≡ ws
  pub parts : u ≡ front ++ back
  pub first : SpellsNoteModifiers noted front
  pub then_ : SpellsModifiers others back
  pub next : word_at (back ++ rest) ≡ w.Other

pub split : (ws : List Word) (u : List Lexeme) → SpellsModifiers ws u → (rest : List Lexeme) → word_at rest ≡ w.Other → Split ws u rest
unfolding word_at
split _ _ no_modifiers rest other =
    record { noted = []; front = []; others = []; back = []; words = refl; parts = refl; first = no_note_modifiers; then_ = no_modifiers; next = other }
split _ _ (more_modifiers _ ws _ b (is_note_word n x is) more) rest other =
    let S = split ws b more rest other in
    record {
      noted = kept true x n ∷ S.noted;
      front = chosen_word true x n ∷ S.front;
      others = S.others;
      back = S.back;
      words = ap (λ (z : List Word). kept true x n ∷ z) S.words;
      parts = ap (λ (z : List Lexeme). chosen_word true x n ∷ z) S.parts;
      first = more_note_modifiers n x S.noted S.front is S.first;
      then_ = S.then_;
      next = S.next;
    }
split _ _ (more_modifiers _ ws _ b (is_code_word n x is) more) rest other =
    record {
      noted = [];
      front = [];
      others = kept false x n ∷ ws;
      back = chosen_word false x n ∷ b;
      words = refl;
      parts = refl;
      first = no_note_modifiers;
      then_ = more_modifiers _ ws _ b (is_code_word n x is) more;
      next = refl;
    }
split _ _ (more_modifiers _ ws _ b (is_override at n) more) rest other =
    record {
      noted = [];
      front = [];
      others = kept false (codes "Override") n ∷ ws;
      back = sign false "@" at ∷ word false "Override" n ∷ b;
      words = refl;
      parts = refl;
      first = no_note_modifiers;
      then_ = more_modifiers _ ws _ b (is_override at n) more;
      next = refl;
    }

-- ---- names

module _ (limit room quantifiers : ℕ) where
  comma_next : (p : Span) (ts : List Lexeme) → at_code m.Comma (sign false "," p ∷ ts) ≡ true
  unfolding mark_at same_mark
  comma_next p ts = refl

  abbrev some_names_of : ℕ → List Word → Parser (List Word)
  some_names_of = separated (at_code m.Comma) (expect false m.Comma) (expect false m.Name) with_word

  names_from : (ws : List Word) (u : List Lexeme) → SpellsNames false ws u → (turns : ℕ) (found : List Word) (rest : List Lexeme) → length u ≤ turns
      → at_code m.Comma rest ≡ false → some_names_of turns found (u ++ rest) ≡ read_as (found ++ ws) rest
  names_from _ _ (last_name n x is) turns found rest few ends =
      separated_ends (at_code m.Comma) (expect false m.Comma) (expect false m.Name) with_word turns found (chosen_word false x n) (chosen_word false x n ∷ rest) rest (omega arith)
      (took_name false x n rest is) ends
  names_from _ _ (first_name n p x ws u is more) zero found rest few ends = absurd (omega arith)
  names_from _ _ (first_name n p x ws u is more) (suc turns) found rest few ends =
      separated_more (at_code m.Comma) (expect false m.Comma) (expect false m.Name) with_word turns found (chosen_word false x n) (sign false "," p)
      (chosen_word false x n ∷ sign false "," p ∷ (u ++ rest)) (u ++ rest) (took_name false x n (sign false "," p ∷ (u ++ rest)) is) (comma_next p (u ++ rest))
      (took_sign false m.Comma (codes ",") p (u ++ rest) refl)
      ∙ names_from ws u more turns (found ++ kept false x n ∷ []) rest (omega arith) ends
      ∙ ap (λ (z : List Word). read_as z rest) (append_assoc found (kept false x n ∷ []) ws)

  pub names_read : (ws : List Word) (u : List Lexeme) → SpellsNames false ws u → (rest : List Lexeme) → length u ≤ limit → at_code m.Comma rest ≡ false
      → spec.names limit room (expression_of limit) quantifiers (u ++ rest) ≡ read_as ws rest
  unfolding spec.names
  names_read ws u h rest few ends = names_from ws u h limit [] rest few ends

  -- where neither the word nor a comma is behind
  pub names_after_read : (text : List ℕ) → bytes_eq text text ≡ true → (ws : List Word) (u : List Lexeme) → SpellsNamesAfter text ws u → (rest : List Lexeme) → length u ≤ limit
      → next_is (is_word text false) rest ≡ false → at_code m.Comma rest ≡ false → spec.names_after limit room (expression_of limit) quantifiers text (u ++ rest) ≡ read_as ws rest
  unfolding spec.names_after
  names_after_read text same _ _ no_names rest few none ends = rw none refl
  names_after_read text same _ _ (some_names n ws u h) rest few none ends =
      rw same (rw (took_if (is_word text false) (chosen_word false text n) (u ++ rest) same) (names_read ws u h rest (omega arith) ends))
