-- What is read as a file spells it.
use Rattle.std.proofs.Common.{◌≡◌, ℕ, ◌≤◌, Bool, false, List, [], ◌∷◌, ◌++◌, Ok, refl, sym, ap, append_assoc, arith}
use Rattle.std.proofs.lemmas.List.{append-nil}
use Rattle.std.specs.Prelude.{codes}
use Rattle.jesc_ast.specs.declared.word.Word.{Word}
use Rattle.jesc_ast.specs.Lexemes.{Lexeme}
use Rattle.jesc_ast.specs.FileTrees.{SourceUnit}
use Rattle.jesc_ast.specs.Depth.{depth, nesting, of_classes, IsFileWithinLimits}
use Rattle.jesc_ast.specs.Members.{SpellsClasses, SpellsDotted, last_part, first_part, SpellsPackage, no_package, some_package}
use Rattle.jesc_jml_grammar.specs.declared.mark.Mark.TheVariants as m
use Rattle.jesc_jml_grammar.specs.Marks.{lexeme_mark}
use Rattle.jesc_jml_grammar.specs.Steps.{Parser, pure, expect}
use Rattle.jesc_jml_grammar.specs.Reading.{Parsed, Start, word_of}
use Rattle.jesc_jml_grammar.specs.ClauseFound.{Sized, with_word}
use Rattle.jesc_jml_parser.specs.laws.SoundMarks.{marked}
use Rattle.jesc_jml_parser.specs.laws.SoundSteps.{Gives, gives_bind, gives_if, gives_so, gives_ok, took, TakesWhole}
use Rattle.jesc_jml_parser.specs.laws.Sound.{expr_takes}
use Rattle.jesc_jml_parser.specs.laws.ClauseSoundLists.{TakenAs, TakenUntil, separated_takes}
use Rattle.jesc_java_grammar.specs.Lexing.{is_word, next_is, take_if}
use Rattle.jesc_java_grammar.specs.FileMarks.{at_code, before_end}
use Rattle.jesc_java_grammar.specs.FileReading as spec
use Rattle.jesc_java_parser.proofs.LexingSound.{took_this_word}
use Rattle.jesc_java_parser.proofs.ClassSound.{classes_take}

-- All lexemes spell the file, and none is left. Its trees are no deeper than the room, and their quantifiers nest no
-- deeper than they may.
pub record IsFile (room k : ℕ) (ts : List Lexeme) (f : Sized SourceUnit) (rest : List Lexeme) : Type 0 where
  pub package_part : List Lexeme
  pub class_part : List Lexeme
  pub whole : ts ≡ package_part ++ class_part
  pub none : rest ≡ []
  pub package_spelled : SpellsPackage f.tree.in_package package_part
  pub classes_spelled : SpellsClasses f.tree.classes class_part
  pub deep : of_classes depth 1 f.tree.classes ≡ f.depth
  pub shallow : f.depth ≤ room
  pub flat : of_classes nesting 0 f.tree.classes ≤ k

one_part : (x : Lexeme) → lexeme_mark false x ≡ m.Name → SpellsDotted (word_of x ∷ []) (x ∷ [])
one_part x named = let at = marked false m.Name x named in rw at.0 (last_part x.span x.text at.1)

parts_at_end : (ws : List Word) (u : List Lexeme) (p x : Lexeme) → SpellsDotted ws u → lexeme_mark false p ≡ m.Dot → lexeme_mark false x ≡ m.Name
    → SpellsDotted (ws ++ word_of x ∷ []) (u ++ p ∷ x ∷ [])
parts_at_end _ _ p x (last_part s y is) dotted named = rw (marked false m.Dot p dotted) (first_part s p.span y (word_of x ∷ []) (x ∷ []) is (one_part x named))
parts_at_end _ _ p x (first_part s q y ws u is more) dotted named = first_part s q y (ws ++ word_of x ∷ []) (u ++ p ∷ x ∷ []) is (parts_at_end ws u p x more dotted named)

at_end : (ts : List Lexeme) → before_end ts ≡ false → ts ≡ []
at_end [] e = refl
at_end (x ∷ ts) e = absurd cc

module _ (limit room : ℕ) (expression : Bool → ℕ → ℕ → ℕ → Start → Parser Parsed)
    (reads : (note : Bool) (room : ℕ) → TakesWhole note room (expression note room)) (k : ℕ) where
  dotted_takes : (ts : List Lexeme) → Gives (spec.dotted limit room expression k ts) (TakenAs SpellsDotted ts)
  unfolding spec.dotted
  dotted_takes ts =
      gives_so (TakenUntil (at_code m.Dot) SpellsDotted ts) (TakenAs SpellsDotted ts) (spec.dotted limit room expression k ts)
      (separated_takes (at_code m.Dot) (expect false m.Dot) (expect false m.Name) with_word SpellsDotted
      (λ ws u all h e.
      gives_bind _ _ (expect false m.Dot all) (took false m.Dot all) (λ p mid dotted.
      gives_so _ (λ x rest. TakenAs (λ (b : List Word) (v : List Lexeme). SpellsDotted b (u ++ v)) all (with_word ws x) rest) (expect false m.Name mid) (took false m.Name mid) (λ x rest named.
      record { taken = p ∷ x ∷ []; parts = rw (dotted.at, named.at) refl; is = parts_at_end ws u p x h dotted.mark named.mark })))
      limit [] ts
      (gives_so _ (λ x rest. TakenAs SpellsDotted ts (with_word [] x) rest) (expect false m.Name ts) (took false m.Name ts) (λ x rest named.
      record { taken = x ∷ []; parts = named.at; is = one_part x named.mark })))
      (λ ws rest h. record { taken = h.taken; parts = h.parts; is = h.is })

  some_package_takes : (ts : List Lexeme) → Gives (spec.some_package limit room expression k ts) (TakenAs SpellsPackage ts)
  unfolding spec.some_package
  some_package_takes ts =
      gives_bind _ _ (take_if (is_word (codes "package") false) ts) (took_this_word (codes "package") false ts) (λ r t1 first.
      gives_bind _ _ (spec.dotted limit room expression k t1) (dotted_takes t1) (λ ws t2 h.
      gives_bind _ _ (expect false m.Semicolon t2) (took false m.Semicolon t2) (λ p rest close.
      record {
        taken = r ∷ (h.taken ++ p ∷ []);
        parts = rw (first.at, h.parts, close.at) (sym (simp append_assoc));
        is = rw (first.is, marked false m.Semicolon p close.mark) (some_package r.span p.span ws h.taken h.is);
      })))

  package_line_takes : (ts : List Lexeme) → Gives (spec.package_line limit room expression k ts) (TakenAs SpellsPackage ts)
  unfolding spec.package_line
  package_line_takes ts =
      gives_if (next_is (is_word (codes "package") false) ts) (spec.some_package limit room expression k) (pure []) (TakenAs SpellsPackage ts) ts
      (λ e. some_package_takes ts)
      (λ e. record { taken = []; parts = refl; is = no_package })

  pub file_takes : (ts : List Lexeme) → Gives (spec.file limit room expression k ts) (IsFile room k ts)
  unfolding spec.file
  file_takes ts =
      gives_bind _ _ (spec.package_line limit room expression k ts) (package_line_takes ts) (λ names mid h.
      gives_bind _ _ (spec.classes limit room expression k mid) (classes_take limit room expression reads k mid) (λ cs rest g.
      let none = at_end rest g.ended in
      record {
        package_part = h.taken;
        class_part = g.taken;
        whole = rw (h.parts, g.parts, none) (ap (λ (z : List Lexeme). h.taken ++ z) (append-nil g.taken));
        none = none;
        package_spelled = h.is;
        classes_spelled = g.is.spelled;
        deep = g.is.deep;
        shallow = g.is.shallow;
        flat = g.is.flat;
      }))

pub file_sound : (limit room k : ℕ) (ts rest : List Lexeme) (f : Sized SourceUnit) → spec.whole_file limit room k ts ≡ Ok (f, rest) → IsFile room k ts f rest
unfolding spec.whole_file
file_sound limit room k ts rest f e =
    gives_ok (spec.file limit room (spec.expression_of limit) k ts) (IsFile room k ts) f rest
    (file_takes limit room (spec.expression_of limit) (λ note room n least some start is u. expr_takes note limit room n least some start is u) k ts) e

-- with the room and the quantifiers that the two limits leave
pub file_within : (limit : ℕ) (ts rest : List Lexeme) (f : Sized SourceUnit) → spec.whole_file limit 200 3 ts ≡ Ok (f, rest) → IsFileWithinLimits f.tree
file_within limit ts rest f e =
    let h = file_sound limit 200 3 ts rest f e in
    record { shallow = omega (arith, h.deep, h.shallow); flat = h.flat }
