-- The lexemes of lists of store references, and of what may be missing in a clause, are read as these.
use Rattle.std.proofs.Common.{◌≡◌, ℕ, zero, suc, ◌≤◌, ◌<◌, max, true, false, Option, Some, List, [], ◌∷◌, ◌++◌, length, refl, sym, ap, ap₂, ◌∙◌, append_assoc, arith, IsTrue, codes}
use Rattle.std.proofs.lemmas.Bool.{both_ways}
use Rattle.std.proofs.lemmas.List.{length-append}
use Rattle.jesc_text.specs.declared.place.Span.{Span}
use Rattle.jesc_ast.specs.declared.word.Word.{Word}
use Rattle.jesc_ast.specs.Lexemes.{Lexeme, backslash, chosen_backslash, sign}
use Rattle.jesc_ast.specs.Words.{is_one_of}
use Rattle.jesc_ast.specs.Trees.{Expression}
use Rattle.jesc_ast.specs.SpecTrees.{Store}
use Rattle.jesc_ast.specs.Expressions.{SpellsExpression}
use Rattle.jesc_ast.specs.Depth.{depth, nesting, of_option, of_store, of_stores}
use Rattle.jesc_ast.specs.Statements.{SpellsOption, is_missing, is_there}
use Rattle.jesc_ast.specs.Specifications.{SpellsSomeStores, last_store, first_store, SpellsStores, is_nothing, is_everything, are_stores, SpellsOptionalName, missing_name, given_name}
use Rattle.jesc_jml_grammar.specs.declared.mark.Mark.{Mark}
use Rattle.jesc_jml_grammar.specs.declared.mark.Mark.TheVariants as m
use Rattle.jesc_jml_grammar.specs.declared.note_word.NoteWord.{NoteWord}
use Rattle.jesc_jml_grammar.specs.declared.note_word.NoteWord.TheVariants as w
use Rattle.jesc_jml_grammar.specs.Marks.{lexeme_mark}
use Rattle.jesc_jml_grammar.specs.Steps.{Parser, mark_at, same_mark, expect}
use Rattle.jesc_jml_grammar.specs.Reading.{Parsed, Start, opens, expr}
use Rattle.jesc_jml_parser.specs.laws.CompleteMarks.{took_sign, took_name, name_at, opens_first}
use Rattle.jesc_jml_parser.specs.laws.CompleteSteps.{parsed}
use Rattle.jesc_jml_parser.specs.laws.CompleteArguments.{Closes, closes_semicolon}
use Rattle.jesc_jml_grammar.specs.ClauseMarks.{texts, note_word, word_at, at_mark}
use Rattle.jesc_jml_grammar.specs.ClauseLists.{separated}
use Rattle.jesc_jml_grammar.specs.ClauseReading as spec
use Rattle.jesc_jml_grammar.specs.ClauseReading.{Sized, sized, no_items, with_more}
use Rattle.jesc_jml_parser.specs.laws.ClauseSoundMarks.{AllHold, of_one_of, noted}
use Rattle.jesc_jml_parser.specs.laws.ClauseCompleteLists.{read_as, took_note, separated_ends, separated_more, read_expression, comma_next}
use Rattle.jesc_jml_parser.specs.laws.ClauseCompleteStores.{ends_comma, ends_semicolon, stores_open, store_reads}

closing : (p : Span) (rest : List Lexeme) → Closes (mark_at true (sign true ";" p ∷ rest))
unfolding mark_at
closing p rest = closes_semicolon

nothing_opens : opens (mark_at true []) ≡ true → ⊥
unfolding mark_at
nothing_opens o = absurd cc

-- ---- lists of stores

abbrev origin : Span
origin = record { file = 0; from = 0; to = 0 }

-- a backslash word of these texts begins no expression
shut : (found : NoteWord) → AllHold (λ z. opens (lexeme_mark true (chosen_backslash true z origin)) ≡ false) (texts found) → (x : Lexeme)
    → (x ≡ chosen_backslash true x.text x.span) × IsTrue (is_one_of (texts found) x.text) → opens (lexeme_mark true x) ≡ true → ⊥
shut found all x at o =
    both_ways (opens (lexeme_mark true (chosen_backslash true x.text x.span)))
    (of_one_of (λ z. opens (lexeme_mark true (chosen_backslash true z origin)) ≡ false) (texts found) x.text all at.1)
    (ap (λ (z : Lexeme). opens (lexeme_mark true z)) (sym at.0) ∙ o)

stores_by_word : (limit room : ℕ) (inner : ℕ → ℕ → Start → Parser Parsed) (k : ℕ) (x : Lexeme) (ts : List Lexeme) (found : NoteWord) → note_word x ≡ found
    → opens (lexeme_mark true x) ≡ true → spec.stores_by limit room inner k found ts ≡ spec.some_stores limit room inner k ts
stores_by_word limit room inner k x ts w.Nothing e o = absurd (shut w.Nothing (refl, tt) x (noted w.Nothing x e) o)
stores_by_word limit room inner k x ts w.Everything e o = absurd (shut w.Everything (refl, tt) x (noted w.Everything x e) o)
stores_by_word limit room inner k x ts _ e o = refl

stores_by_first : (limit room : ℕ) (inner : ℕ → ℕ → Start → Parser Parsed) (k : ℕ) (ts : List Lexeme) → opens (mark_at true ts) ≡ true
    → spec.stores limit room inner k ts ≡ spec.some_stores limit room inner k ts
unfolding spec.stores mark_at word_at
stores_by_first limit room inner k [] o = absurd cc
stores_by_first limit room inner k (x ∷ ts) o = stores_by_word limit room inner k x (x ∷ ts) (note_word x) refl o

pub no_comma : (p : Span) (ts : List Lexeme) → at_mark m.Comma (sign true ";" p ∷ ts) ≡ false
unfolding mark_at same_mark
no_comma p ts = refl

some_store : (ts : List Store) (u : List Lexeme) → SpellsSomeStores ts u → 1 ≤ length u
some_store ts u h = by u (stores_open ts u h [])
  where
    by : (v : List Lexeme) → opens (mark_at true (v ++ [])) ≡ true → 1 ≤ length v
    by [] o = absurd (nothing_opens o)
    by (x ∷ v) o = omega arith

abbrev stores_as : Sized (List Store) → List Store → ℕ → Sized (List Store)
stores_as found ts d = sized (found.tree ++ ts) (max found.depth d)

module _ (limit room k : ℕ) where
  abbrev some_stores_from : ℕ → Sized (List Store) → Parser (Sized (List Store))
  some_stores_from = separated (at_mark m.Comma) (expect true m.Comma) (spec.one_store limit room (expr true limit room) k) with_more

  stores_from : (ts : List Store) (u : List Lexeme) → SpellsSomeStores ts u → (turns : ℕ) (found : Sized (List Store)) (p : Span) (rest : List Lexeme) → length u < turns
      → of_stores depth 1 ts ≤ room → of_stores nesting 0 ts ≤ k → length u ≤ limit
      → some_stores_from turns found (u ++ sign true ";" p ∷ rest) ≡ read_as (stores_as found ts (of_stores depth 1 ts)) (sign true ";" p ∷ rest)
  stores_from _ _ (last_store t u h) turns found p rest enough deep flat few =
      let same : max found.depth (of_store depth 1 t.form) ≡ max found.depth (max (of_store depth 1 t.form) 0) = omega arith in
      separated_ends (at_mark m.Comma) (expect true m.Comma) (spec.one_store limit room (expr true limit room) k) with_more turns found (sized t (of_store depth 1 t.form))
      (u ++ sign true ";" p ∷ rest) (sign true ";" p ∷ rest) (omega arith)
      (store_reads limit room k t u h (sign true ";" p ∷ rest) (omega arith) (omega arith) few (ends_semicolon p rest)) (no_comma p rest)
      ∙ ap (λ (d : ℕ). read_as (sized (found.tree ++ t ∷ []) d) (sign true ";" p ∷ rest)) same
  stores_from _ _ (first_store t q ts u v h more) zero found p rest enough deep flat few = absurd (omega arith)
  stores_from _ _ (first_store t q ts u v h more) (suc turns) found p rest enough deep flat few =
      let close : List Lexeme = sign true ";" p ∷ rest in
      let now : Sized (List Store) = with_more found (sized t (of_store depth 1 t.form)) in
      let lens = length-append u (sign true "," q ∷ v) in
      let same : max (max found.depth (of_store depth 1 t.form)) (of_stores depth 1 ts) ≡ max found.depth (max (of_store depth 1 t.form) (of_stores depth 1 ts)) = omega arith in
      ap (some_stores_from (suc turns) found) (append_assoc u (sign true "," q ∷ v) close)
      ∙ separated_more (at_mark m.Comma) (expect true m.Comma) (spec.one_store limit room (expr true limit room) k) with_more turns found (sized t (of_store depth 1 t.form))
      (sign true "," q) (u ++ sign true "," q ∷ (v ++ close)) (v ++ close)
      (store_reads limit room k t u h (sign true "," q ∷ (v ++ close)) (omega arith) (omega arith) (omega arith) (ends_comma q (v ++ close)))
      (comma_next q (v ++ close)) (took_sign true m.Comma (codes ",") q (v ++ close) refl)
      ∙ stores_from ts v more turns now p rest (omega arith) (omega arith) (omega arith) (omega arith)
      ∙ ap₂ (λ (z : List Store) (d : ℕ). read_as (sized z d) close) (append_assoc found.tree (t ∷ []) ts) same

  some_stores_read : (ts : List Store) (u : List Lexeme) → SpellsSomeStores ts u → (p : Span) (rest : List Lexeme) → of_stores depth 1 ts ≤ room → of_stores nesting 0 ts ≤ k
      → length u < limit → spec.some_stores limit room (expr true limit room) k (u ++ sign true ";" p ∷ rest) ≡ read_as (sized ts (of_stores depth 1 ts)) (sign true ";" p ∷ rest)
  unfolding spec.some_stores
  some_stores_read ts u h p rest deep flat few =
      let same : max 0 (of_stores depth 1 ts) ≡ of_stores depth 1 ts = omega arith in
      stores_from ts u h limit no_items p rest few deep flat (omega arith) ∙ ap (λ (d : ℕ). read_as (sized ts d) (sign true ";" p ∷ rest)) same

  pub stores_read : (ts : List Store) (u : List Lexeme) → SpellsStores ts u → (p : Span) (rest : List Lexeme) → of_stores depth 1 ts ≤ room → of_stores nesting 0 ts ≤ k
      → length u < limit → spec.stores limit room (expr true limit room) k (u ++ sign true ";" p ∷ rest) ≡ read_as (sized ts (of_stores depth 1 ts)) (sign true ";" p ∷ rest)
  unfolding spec.stores spec.word_store word_at
  stores_read _ _ (is_nothing s) p rest deep flat few = rw (took_note w.Nothing (backslash true "\\nothing" s) (sign true ";" p ∷ rest) refl) refl
  stores_read _ _ (is_everything s) p rest deep flat few = rw (took_note w.Everything (backslash true "\\everything" s) (sign true ";" p ∷ rest) refl) refl
  stores_read _ _ (are_stores ts u h) p rest deep flat few =
      stores_by_first limit room (expr true limit room) k (u ++ sign true ";" p ∷ rest) (stores_open ts u h (sign true ";" p ∷ rest))
      ∙ some_stores_read ts u h p rest deep flat few

  -- ---- parts of clauses

  pub optional_name_read : (n : Option Word) (u : List Lexeme) → SpellsOptionalName true n u → (q : Span) (rest : List Lexeme)
      → spec.optional_name limit room (expr true limit room) k (u ++ sign true ")" q ∷ rest) ≡ read_as n (sign true ")" q ∷ rest)
  unfolding spec.optional_name mark_at same_mark
  optional_name_read _ _ missing_name q rest = refl
  optional_name_read _ _ (given_name s x named) q rest = rw (name_at true x s named, took_name true x s (sign true ")" q ∷ rest) named) refl

  not_closed : (mark : Mark) → opens mark ≡ true → same_mark mark m.Semicolon ≡ false
  unfolding same_mark
  not_closed m.Semicolon o = absurd cc
  not_closed _ o = refl

  pub before_semicolon : (e : Expression) (u : List Lexeme) (h : SpellsExpression true e u) → (p : Span) (rest : List Lexeme) → depth e ≤ room → nesting e ≤ k → length u ≤ limit
      → spec.expression limit room (expr true limit room) k (u ++ sign true ";" p ∷ rest) ≡ read_as (parsed h.0 e) (sign true ";" p ∷ rest)
  before_semicolon e u h p rest deep flat few = read_expression limit room k e u (sign true ";" p ∷ rest) h deep flat few (closing p rest)

  there_read : (e : Expression) (u : List Lexeme) (h : SpellsExpression true e u) → (p : Span) (rest : List Lexeme) → depth e ≤ room → nesting e ≤ k → length u ≤ limit
      → spec.optional_expression limit room (expr true limit room) k (u ++ sign true ";" p ∷ rest) ≡ read_as (sized (Some e) (depth e)) (sign true ";" p ∷ rest)
  unfolding spec.optional_expression
  there_read e u h p rest deep flat few =
      rw (not_closed (mark_at true (u ++ sign true ";" p ∷ rest)) (opens_first true h.1 (sign true ";" p ∷ rest)), before_semicolon e u h p rest deep flat few) refl

  pub optional_expression_read : (e : Option Expression) (u : List Lexeme) → SpellsOption true e u → (p : Span) (rest : List Lexeme) → of_option depth 1 e ≤ room
      → of_option nesting 0 e ≤ k → length u ≤ limit
      → spec.optional_expression limit room (expr true limit room) k (u ++ sign true ";" p ∷ rest) ≡ read_as (sized e (of_option depth 1 e)) (sign true ";" p ∷ rest)
  unfolding spec.optional_expression mark_at same_mark
  optional_expression_read _ _ is_missing p rest deep flat few = refl
  optional_expression_read _ _ (is_there e u h) p rest deep flat few = there_read e u h p rest deep flat few
