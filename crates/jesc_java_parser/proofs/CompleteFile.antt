-- The lexemes of a file are read as this file.
use Rattle.std.proofs.Common.{◌≡◌, ℕ, zero, suc, ◌≤◌, ◌<◌, max, true, false, List, [], ◌∷◌, ◌++◌, length, length-append, Ok, refl, sym, ap, ap₂, ◌∙◌, arith, append_assoc, append-nil, codes, IsTrue}
use Rattle.jesc_text.specs.declared.place.Span.{Span}
use Rattle.jesc_ast.specs.declared.word.Word.{Word}
use Rattle.jesc_ast.specs.Lexemes.{Lexeme, sign, word, chosen_word, kept}
use Rattle.jesc_ast.specs.FileTrees.{Class, SourceUnit, unit_of}
use Rattle.jesc_ast.specs.Depth.{depth, nesting, of_members, of_classes}
use Rattle.jesc_ast.specs.Members.{SpellsUnit, is_code_modifier, is_code_word, is_note_word, is_override, SpellsModifiers, no_modifiers, more_modifiers, SpellsClass, is_class, is_interface, SpellsClasses, no_classes, more_classes, SpellsDotted, last_part, first_part, SpellsPackage, no_package, some_package}
use Rattle.jesc_jml_grammar.specs.declared.mark.Mark.TheVariants as m
use Rattle.jesc_jml_grammar.specs.Steps.{Parser, mark_at, same_mark, expect}
use Rattle.jesc_jml_parser.specs.laws.CompleteMarks.{took_sign, took_name}
use Rattle.jesc_jml_grammar.specs.ClauseLists.{until, separated}
use Rattle.jesc_jml_grammar.specs.ClauseReading.{Sized, sized, no_items, with_more, with_word}
use Rattle.jesc_jml_parser.specs.laws.ClauseCompleteLists.{read_as, until_more, until_ends, separated_ends, separated_more}
use Rattle.jesc_java_grammar.specs.Lexing.{is_word, next_is}
use Rattle.jesc_java_grammar.specs.FileMarks.{at_code, before_end}
use Rattle.jesc_java_grammar.specs.FileReading as spec
use Rattle.jesc_java_grammar.specs.FileReading.{expression_of}
use Rattle.jesc_java_parser.proofs.CompleteLexing.{took_if, unlike}
use Rattle.jesc_java_parser.proofs.CompleteClasses.{class_read}

-- ---- what a class begins with

no_package_word : (x : List ℕ) (s : Span) (rest : List Lexeme) → IsTrue (is_code_modifier x) → next_is (is_word (codes "package") false) (chosen_word false x s ∷ rest) ≡ false
no_package_word x s rest t = unlike is_code_modifier x (codes "package") t refl

-- one lexeme at least, and none that begins a package
record BeginsClass (u : List Lexeme) : Type 0 where
  some : 1 ≤ length u
  further : (rest : List Lexeme) → before_end (u ++ rest) ≡ true
  unnamed : (rest : List Lexeme) → next_is (is_word (codes "package") false) (u ++ rest) ≡ false

modifiers_begin : (ws : List Word) (a : List Lexeme) → SpellsModifiers ws a → (v : List Lexeme) → BeginsClass v → BeginsClass (a ++ v)
modifiers_begin _ _ no_modifiers v b = b
modifiers_begin _ _ (more_modifiers _ ws _ a (is_code_word n x is) more) v b =
    record { some = omega arith; further = λ rest. refl; unnamed = λ rest. no_package_word x n ((a ++ v) ++ rest) is }
modifiers_begin _ _ (more_modifiers _ ws _ a (is_note_word n x is) more) v b = record { some = omega arith; further = λ rest. refl; unnamed = λ rest. refl }
modifiers_begin _ _ (more_modifiers _ ws _ a (is_override at n) more) v b = record { some = omega arith; further = λ rest. refl; unnamed = λ rest. refl }

class_begins : (c : Class) (u : List Lexeme) → SpellsClass c u → BeginsClass u
class_begins _ _ (is_class c n p q ws extends implements x ms a t i b u ha named ht one hi hm e) =
    rw e (modifiers_begin ws a ha _ (record { some = omega arith; further = λ rest. refl; unnamed = λ rest. refl }))
class_begins _ _ (is_interface c n p q ws extends x ms a t b u ha named ht hm e) =
    rw e (modifiers_begin ws a ha _ (record { some = omega arith; further = λ rest. refl; unnamed = λ rest. refl }))

-- ---- classes

module _ (limit room quantifiers : ℕ) where
  abbrev class_parser : Parser (Sized Class)
  class_parser = spec.class_ limit room (expression_of limit) quantifiers

  classes_from : (cs : List Class) (u : List Lexeme) → SpellsClasses cs u → (turns : ℕ) (found : Sized (List Class)) → of_classes depth 1 cs ≤ room → of_classes nesting 0 cs ≤ quantifiers
      → length u < turns → length u < limit
      → until before_end class_parser with_more turns found u ≡ read_as (sized (found.tree ++ cs) (max found.depth (of_classes depth 1 cs))) []
  classes_from _ _ no_classes turns found deep flat enough few =
      let same : found.depth ≡ max found.depth 0 = omega arith in
      until_ends before_end class_parser with_more turns found [] enough refl ∙ ap₂ (λ (z : List Class) (d : ℕ). read_as (sized z d) []) (sym (append-nil found.tree)) same
  classes_from _ _ (more_classes c cs u v h more) zero found deep flat enough few = absurd (omega arith)
  classes_from _ _ (more_classes c cs u v h more) (suc turns) found deep flat enough few =
      let B = class_begins c u h in
      let lens = length-append u v in
      let one = sized c (of_members depth 1 c.members) in
      let same : max (max found.depth (of_members depth 1 c.members)) (of_classes depth 1 cs) ≡ max found.depth (max (of_members depth 1 c.members) (of_classes depth 1 cs)) = omega arith in
      until_more before_end class_parser with_more turns found one (u ++ v) v (B.further v) (class_read limit room quantifiers c u h v (omega arith) (omega arith) (omega arith))
      ∙ classes_from cs v more turns (with_more found one) (omega arith) (omega arith) (omega (arith, B.some)) (omega arith)
      ∙ ap₂ (λ (z : List Class) (d : ℕ). read_as (sized z d) []) (append_assoc found.tree (c ∷ []) cs) same

  classes_read : (cs : List Class) (u : List Lexeme) → SpellsClasses cs u → of_classes depth 1 cs ≤ room → of_classes nesting 0 cs ≤ quantifiers → length u < limit
      → spec.classes limit room (expression_of limit) quantifiers u ≡ read_as (sized cs (of_classes depth 1 cs)) []
  unfolding spec.classes
  classes_read cs u h deep flat few =
      let same : max 0 (of_classes depth 1 cs) ≡ of_classes depth 1 cs = omega arith in
      classes_from cs u h limit no_items deep flat few few ∙ ap (λ (d : ℕ). read_as (sized cs d) []) same

  unnamed_classes : (cs : List Class) (u : List Lexeme) → SpellsClasses cs u → next_is (is_word (codes "package") false) u ≡ false
  unnamed_classes _ _ no_classes = refl
  unnamed_classes _ _ (more_classes c cs u v h more) = (class_begins c u h).unnamed v

  -- ---- the package

  dot_next : (p : Span) (ts : List Lexeme) → at_code m.Dot (sign false "." p ∷ ts) ≡ true
  unfolding mark_at same_mark
  dot_next p ts = refl

  no_dot : (p : Span) (ts : List Lexeme) → at_code m.Dot (sign false ";" p ∷ ts) ≡ false
  unfolding mark_at same_mark
  no_dot p ts = refl

  abbrev parts_of : ℕ → List Word → Parser (List Word)
  parts_of = separated (at_code m.Dot) (expect false m.Dot) (expect false m.Name) with_word

  parts_from : (ws : List Word) (u : List Lexeme) → SpellsDotted ws u → (turns : ℕ) (found : List Word) (p : Span) (rest : List Lexeme) → length u ≤ turns
      → parts_of turns found (u ++ sign false ";" p ∷ rest) ≡ read_as (found ++ ws) (sign false ";" p ∷ rest)
  parts_from _ _ (last_part n x is) turns found p rest few =
      separated_ends (at_code m.Dot) (expect false m.Dot) (expect false m.Name) with_word turns found (chosen_word false x n) (chosen_word false x n ∷ sign false ";" p ∷ rest)
      (sign false ";" p ∷ rest) (omega arith) (took_name false x n (sign false ";" p ∷ rest) is) (no_dot p rest)
  parts_from _ _ (first_part n q x ws u is more) zero found p rest few = absurd (omega arith)
  parts_from _ _ (first_part n q x ws u is more) (suc turns) found p rest few =
      let close : List Lexeme = sign false ";" p ∷ rest in
      separated_more (at_code m.Dot) (expect false m.Dot) (expect false m.Name) with_word turns found (chosen_word false x n) (sign false "." q)
      (chosen_word false x n ∷ sign false "." q ∷ (u ++ close)) (u ++ close) (took_name false x n (sign false "." q ∷ (u ++ close)) is) (dot_next q (u ++ close))
      (took_sign false m.Dot (codes ".") q (u ++ close) refl)
      ∙ parts_from ws u more turns (found ++ kept false x n ∷ []) p rest (omega arith)
      ∙ ap (λ (z : List Word). read_as z close) (append_assoc found (kept false x n ∷ []) ws)

  dotted_read : (ws : List Word) (u : List Lexeme) → SpellsDotted ws u → (p : Span) (rest : List Lexeme) → length u ≤ limit
      → spec.dotted limit room (expression_of limit) quantifiers (u ++ sign false ";" p ∷ rest) ≡ read_as ws (sign false ";" p ∷ rest)
  unfolding spec.dotted
  dotted_read ws u h p rest few = parts_from ws u h limit [] p rest few

  package_read : (ws : List Word) (a : List Lexeme) → SpellsPackage ws a → (rest : List Lexeme) → length a ≤ limit → next_is (is_word (codes "package") false) rest ≡ false
      → spec.package_line limit room (expression_of limit) quantifiers (a ++ rest) ≡ read_as ws rest
  unfolding spec.package_line spec.some_package
  package_read _ _ no_package rest few none = rw none refl
  package_read _ _ (some_package n p ws u h) rest few none =
      rw (append_assoc u (sign false ";" p ∷ []) rest)
      (rw (took_if (is_word (codes "package") false) (word false "package" n) (u ++ sign false ";" p ∷ rest) refl)
      (rw (dotted_read ws u h p rest (omega (arith, length-append u (sign false ";" p ∷ [])))) (rw (took_sign false m.Semicolon (codes ";") p rest refl) refl)))

-- ---- files

parts_read : (limit room quantifiers : ℕ) (ws : List Word) (cs : List Class) (a u : List Lexeme) → SpellsPackage ws a → SpellsClasses cs u → of_classes depth 1 cs ≤ room
    → of_classes nesting 0 cs ≤ quantifiers → length (a ++ u) < limit
    → spec.whole_file limit room quantifiers (a ++ u) ≡ read_as (sized (unit_of ws cs) (of_classes depth 1 cs)) []
unfolding spec.whole_file spec.file
parts_read limit room quantifiers ws cs a u ha hu deep flat few =
    let lens = length-append a u in
    rw (package_read limit room quantifiers ws a ha u (omega arith) (unnamed_classes limit room quantifiers cs u hu))
    (rw (classes_read limit room quantifiers cs u hu deep flat (omega arith)) refl)

-- What is spelled is read, where there is room for it.
pub file_complete : (limit room quantifiers : ℕ) (t : SourceUnit) (ts : List Lexeme) → SpellsUnit t ts → of_classes depth 1 t.classes ≤ room → of_classes nesting 0 t.classes ≤ quantifiers
    → length ts < limit → spec.whole_file limit room quantifiers ts ≡ Ok (sized t (of_classes depth 1 t.classes), [])
file_complete limit room quantifiers t ts s deep flat few =
    ap (spec.whole_file limit room quantifiers) s.whole
    ∙ parts_read limit room quantifiers t.in_package t.classes s.package_part s.class_part s.package_spelled s.classes_spelled deep flat (omega (arith, ap length s.whole))
