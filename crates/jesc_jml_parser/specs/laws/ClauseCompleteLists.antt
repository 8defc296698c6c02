-- What words of annotations are to the rules, and how the lists of the grammar are read, item by item.
use Rattle.std.proofs.Common.{◌≡◌, ℕ, zero, suc, ◌≤◌, ◌<◌, Bool, true, false, List, [], ◌∷◌, ◌++◌, length, Ok, refl, ap, ◌∙◌, append_assoc, arith, IsTrue, codes}
use denote.Enum.Bare.{true_same}
use Rattle.jesc_text.specs.declared.place.Span.{Span}
use Rattle.jesc_ast.specs.declared.word.Word.{Word}
use Rattle.jesc_ast.specs.Lexemes.{Lexeme, chosen_word, sign}
use Rattle.jesc_ast.specs.Words.{is_one_of}
use Rattle.jesc_ast.specs.Trees.{Expression}
use Rattle.jesc_ast.specs.Expressions.{SpellsExpression}
use Rattle.jesc_ast.specs.Depth.{depth, nesting}
use Rattle.jesc_ast.specs.Specifications.{SpellsNames, last_name, first_name}
use Rattle.jesc_jml_grammar.specs.contracts.note_word.NoteWord.{the_type}
use Rattle.jesc_jml_grammar.specs.declared.mark.Mark.TheVariants as m
use Rattle.jesc_jml_grammar.specs.declared.note_word.NoteWord.{NoteWord}
use Rattle.jesc_jml_grammar.specs.Steps.{Outcome, Parser, ◌>>◌, mark_at, same_mark, take_one, expect}
use Rattle.jesc_jml_grammar.specs.Reading.{expr}
use Rattle.jesc_jml_parser.specs.laws.CompleteMarks.{took_sign, took_name}
use Rattle.jesc_jml_parser.specs.laws.CompleteEdges.{closed_by, positive}
use Rattle.jesc_jml_parser.specs.laws.CompleteSteps.{parsed}
use Rattle.jesc_jml_parser.specs.laws.CompleteArguments.{Closes}
use Rattle.jesc_jml_parser.specs.laws.Complete.{expr_complete}
use Rattle.jesc_jml_grammar.specs.ClauseMarks.{texts, plain_word, note_word, same_word, word_at, expect_word, at_mark}
use Rattle.jesc_jml_grammar.specs.ClauseLists.{until, separated}
use Rattle.jesc_jml_grammar.specs.ClauseReading as spec
use Rattle.jesc_jml_grammar.specs.ClauseReading.{with_word}
use Rattle.jesc_jml_parser.specs.laws.ClauseSoundMarks.{AllHold, of_one_of}

abbrev pub read_as : {A : Type 0} → A → List Lexeme → Outcome A
read_as x rest = Ok (x, rest)

-- ---- words

pub same_word_self : (word : NoteWord) → same_word word word ≡ true
unfolding same_word
same_word_self word = true_same the_type word word refl

pub took_note : (word : NoteWord) (x : Lexeme) (ts : List Lexeme) → note_word x ≡ word → expect_word word (x ∷ ts) ≡ Ok (x, ts)
unfolding expect_word take_one word_at
took_note word x ts e = rw (e, same_word_self word) refl

-- a word of one of these texts is this word, where each of the texts alone is
pub noted_by : (word : NoteWord) → AllHold (λ z. plain_word z ≡ word) (texts word) → (x : List ℕ) (s : Span) → IsTrue (is_one_of (texts word) x)
    → note_word (chosen_word true x s) ≡ word
noted_by word all x s is = of_one_of (λ z. plain_word z ≡ word) (texts word) x all is

-- ---- lists

module _ {A B : Type 0} (begins : List Lexeme → Bool) (item : Parser A) (add : B → A → B) where
  pub until_more : (n : ℕ) (found : B) (x : A) (ts mid : List Lexeme) → begins ts ≡ true → item ts ≡ Ok (x, mid)
      → until begins item add (suc n) found ts ≡ until begins item add n (add found x) mid
  unfolding until
  until_more n found x ts mid more e = rw (more, e) refl

  pub until_ends : (n : ℕ) (found : B) (ts : List Lexeme) → 0 < n → begins ts ≡ false → until begins item add n found ts ≡ Ok (found, ts)
  unfolding until
  until_ends zero found ts some none = absurd (omega arith)
  until_ends (suc n) found ts some none = rw none refl

module _ {A B : Type 0} (begins : List Lexeme → Bool) (between : Parser Lexeme) (item : Parser A) (add : B → A → B) where
  pub separated_ends : (n : ℕ) (found : B) (x : A) (ts mid : List Lexeme) → 0 < n → item ts ≡ Ok (x, mid) → begins mid ≡ false
      → separated begins between item add n found ts ≡ Ok (add found x, mid)
  unfolding separated
  separated_ends n found x ts mid some e none = rw e (until_ends begins (between >> item) add n (add found x) mid some none)

  pub separated_more : (n : ℕ) (found : B) (x : A) (p : Lexeme) (ts mid : List Lexeme) → item ts ≡ Ok (x, p ∷ mid) → begins (p ∷ mid) ≡ true
      → between (p ∷ mid) ≡ Ok (p, mid)
      → separated begins between item add (suc n) found ts ≡ separated begins between item add n (add found x) mid
  unfolding separated until
  separated_more n found x p ts mid e more took = rw (e, more, took) refl

-- ---- expressions before what ends them

pub read_expression : (limit room k : ℕ) (e : Expression) (u rest : List Lexeme) (h : SpellsExpression true e u) → depth e ≤ room → nesting e ≤ k → length u ≤ limit
    → Closes (mark_at true rest) → spec.expression limit room (expr true limit room) k (u ++ rest) ≡ read_as (parsed h.0 e) rest
read_expression limit room k e u rest h deep flat few c =
    expr_complete true limit room k 1 h.0 e u rest h.1 (positive true h.1) (omega arith) deep flat few
    (closed_by true h.1 1 (mark_at true rest) c.no_cast (omega (arith, c.loose)) (omega (arith, c.weak)))

-- ---- names

pub comma_next : (q : Span) (ts : List Lexeme) → at_mark m.Comma (sign true "," q ∷ ts) ≡ true
unfolding mark_at same_mark
comma_next q ts = refl

module _ (limit room k : ℕ) where
  abbrev more_names : ℕ → List Word → Parser (List Word)
  more_names = separated (at_mark m.Comma) (expect true m.Comma) (expect true m.Name) with_word

  names_from : (ws : List Word) (u : List Lexeme) → SpellsNames true ws u → (turns : ℕ) (found : List Word) (rest : List Lexeme) → length u ≤ turns
      → at_mark m.Comma rest ≡ false → more_names turns found (u ++ rest) ≡ read_as (found ++ ws) rest
  names_from _ _ (last_name s x is) turns found rest few ends =
      separated_ends (at_mark m.Comma) (expect true m.Comma) (expect true m.Name) with_word turns found (chosen_word true x s) (chosen_word true x s ∷ rest) rest (omega arith)
      (took_name true x s rest is) ends
  names_from _ _ (first_name s p x ws u is more) zero found rest few ends = absurd (omega arith)
  names_from _ _ (first_name s p x ws u is more) (suc turns) found rest few ends =
      separated_more (at_mark m.Comma) (expect true m.Comma) (expect true m.Name) with_word turns found (chosen_word true x s) (sign true "," p)
      (chosen_word true x s ∷ sign true "," p ∷ (u ++ rest)) (u ++ rest) (took_name true x s (sign true "," p ∷ (u ++ rest)) is) (comma_next p (u ++ rest))
      (took_sign true m.Comma (codes ",") p (u ++ rest) refl)
      ∙ names_from ws u more turns (found ++ record { text = x; note = true; span = s } ∷ []) rest (omega arith) ends
      ∙ ap (λ (z : List Word). read_as z rest) (append_assoc found (record { text = x; note = true; span = s } ∷ []) ws)

  pub names_read : (ws : List Word) (u : List Lexeme) → SpellsNames true ws u → (rest : List Lexeme) → length u ≤ limit → at_mark m.Comma rest ≡ false
      → spec.names limit room (expr true limit room) k (u ++ rest) ≡ read_as ws rest
  unfolding spec.names
  names_read ws u h rest few ends = names_from ws u h limit [] rest few ends
