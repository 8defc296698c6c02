-- Simple statements, lists of statements, bodies and `catch` clauses are read, where the statements in them are.
use Rattle.std.proofs.Common.{◌≡◌, ℕ, zero, suc, ◌≤◌, true, false, List, [], ◌∷◌, ◌++◌, length, refl, ap, ap₂, ◌∙◌, arith, append_assoc, codes}
use Rattle.jesc_text.specs.declared.place.Span.{Span}
use Rattle.jesc_ast.specs.Lexemes.{Lexeme, sign, join}
use Rattle.jesc_ast.specs.Trees.{Statement, block}
use Rattle.jesc_ast.specs.Depth.{depth, nesting, of_statement}
use Rattle.jesc_ast.specs.Statements.{Simple, declares, assigns, calls, SpellsSimple, is_local, is_final_local, is_assignment, is_step_after, is_step_before, is_call_alone, is_loop, is_branch, is_step_sign}
use Rattle.jesc_jml_grammar.specs.declared.mark.Mark.{Mark}
use Rattle.jesc_jml_grammar.specs.declared.mark.Mark.TheVariants as m
use Rattle.jesc_jml_grammar.specs.Steps.{Parser, mark_at}
use Rattle.jesc_jml_parser.specs.laws.CompleteMarks.{took_sign, opens_first}
use Rattle.jesc_jml_grammar.specs.ClauseReading.{Sized, sized}
use Rattle.jesc_jml_parser.specs.laws.ClauseCompleteLists.{read_as}
use Rattle.jesc_java_grammar.specs.declared.statement_mark.StatementMark.{StatementMark}
use Rattle.jesc_java_grammar.specs.declared.statement_mark.StatementMark.TheVariants as s
use Rattle.jesc_java_grammar.specs.declared.statement_mark.Slot.{Slot}
use Rattle.jesc_java_grammar.specs.StatementMarks.{statement_mark_at, allows_branch, allows_loop}
use Rattle.jesc_java_grammar.specs.FileReading.{expression_of}
use Rattle.jesc_java_grammar.specs.StatementReading as spec
use Rattle.jesc_java_parser.proofs.CompleteLexing.{none_of, assign_signs, plain_opens, plain_at}
use Rattle.jesc_java_parser.proofs.CompletePieces.{may_stand, type_plain, ReadsPiece, piece_read}
use Rattle.jesc_java_parser.proofs.CompleteEdges.{statement_goes_on}
use Rattle.jesc_java_parser.proofs.CompleteParts.{is_part_mark, semicolon_closes}
use Rattle.jesc_java_parser.proofs.CompleteWords.{piece_first, as_statement}

-- ---- what it is that lexemes are read as a statement

-- it may stand there
pub record Fits (slot : Slot) (t : Statement) : Type 0 where
  pub branches : is_branch t ≡ true → allows_branch slot ≡ true
  pub loops : is_loop t ≡ true → allows_loop slot ≡ true

-- The lexemes are read as the statement, and nothing behind them, where it may stand, there is room for it and nothing
-- goes on with it.
pub record IsStatement (limit : ℕ) (t : Statement) (u : List Lexeme) : Type 0 where
  pub is : (room quantifiers : ℕ) (slot : Slot) (rest : List Lexeme) → Fits slot t → of_statement depth 1 t ≤ room → of_statement nesting 0 t ≤ quantifiers
      → statement_goes_on t rest ≡ false → spec.statement limit (expression_of limit) quantifiers room slot (u ++ rest) ≡ as_statement t rest

-- the parser of the statements inside, and that of statements with one node more
abbrev pub inside : ℕ → ℕ → ℕ → Slot → Parser (Sized Statement)
inside limit room quantifiers = spec.statement limit (expression_of limit) quantifiers room

abbrev pub outside : ℕ → ℕ → ℕ → Slot → Parser (Sized Statement)
outside limit room quantifiers = spec.begun limit room (expression_of limit) quantifiers (inside limit room quantifiers)

pub statement_positive : (t : Statement) → 1 ≤ of_statement depth 1 t
statement_positive (block t b) = omega arith
statement_positive _ = omega arith

abbrev ReadsOutside : ℕ → Statement → List Lexeme → Type 0
ReadsOutside limit t u = (room quantifiers : ℕ) (slot : Slot) (rest : List Lexeme) → Fits slot t → of_statement depth 1 t ≤ suc room → of_statement nesting 0 t ≤ quantifiers
    → statement_goes_on t rest ≡ false → outside limit room quantifiers slot (u ++ rest) ≡ as_statement t rest

by_room : (limit : ℕ) (t : Statement) (u : List Lexeme) → ReadsOutside limit t u → (room quantifiers : ℕ) (slot : Slot) (rest : List Lexeme) → Fits slot t
    → of_statement depth 1 t ≤ room → of_statement nesting 0 t ≤ quantifiers → statement_goes_on t rest ≡ false
    → spec.statement limit (expression_of limit) quantifiers room slot (u ++ rest) ≡ as_statement t rest
unfolding spec.statement
by_room limit t u h zero quantifiers slot rest fits deep flat stops = absurd (omega (arith, statement_positive t))
by_room limit t u h (suc room) quantifiers slot rest fits deep flat stops = h room quantifiers slot rest fits deep flat stops

pub from_outside : {limit : ℕ} {t : Statement} {u : List Lexeme} → ReadsOutside limit t u → IsStatement limit t u
from_outside {limit} {t} {u} h = record { is = by_room limit t u h }

pub outside_is : (limit room quantifiers : ℕ) (slot : Slot) (mark : StatementMark) (ts : List Lexeme) → statement_mark_at ts ≡ mark
    → outside limit room quantifiers slot ts ≡ spec.statement_by limit room (expression_of limit) quantifiers (inside limit room quantifiers) slot mark ts
unfolding spec.begun
outside_is limit room quantifiers slot mark ts at = rw at refl

-- ---- simple statements

module _ (limit room quantifiers : ℕ) (slot : Slot) where
  abbrev simple_statement : Parser (Sized Statement)
  simple_statement = spec.simple_statement limit room (expression_of limit) quantifiers

  other_is : (mark : Mark) (ts : List Lexeme) → is_part_mark mark ≡ true
      → spec.other_by limit room (expression_of limit) quantifiers (inside limit room quantifiers) mark ts ≡ simple_statement ts
  other_is m.Semicolon ts p = absurd cc
  other_is _ ts p = refl

  other_begun : (ts : List Lexeme) → statement_mark_at ts ≡ s.Other → is_part_mark (mark_at false ts) ≡ true → outside limit room quantifiers slot ts ≡ simple_statement ts
  unfolding spec.other_statement
  other_begun ts at p = outside_is limit room quantifiers slot s.Other ts at ∙ other_is (mark_at false ts) ts p

  simple_begun : (whole : Span → Span) {kind : Simple} {t : Statement} {u : List Lexeme} → SpellsSimple whole kind t u → (rest : List Lexeme)
      → outside limit room quantifiers slot (u ++ rest) ≡ simple_statement (u ++ rest)
  unfolding statement_mark_at
  simple_begun whole (is_local equals n t x e u v ht named he) rest =
      other_begun _ (ap statement_mark_at (append_assoc u _ rest) ∙ plain_at _ (type_plain ht _)) (piece_first whole (is_local equals n t x e u v ht named he) rest)
  simple_begun whole (is_final_local f equals n t x e u v ht named he) rest = outside_is limit room quantifiers slot s.Final _ refl
  simple_begun whole (is_assignment o op target e u v ht a is he) rest =
      other_begun _ (ap statement_mark_at (append_assoc u _ rest) ∙ plain_at _ (plain_opens _ (opens_first false ht.1 _))) (piece_first whole (is_assignment o op target e u v ht a is he) rest)
  simple_begun whole (is_step_after o op target u ht a is) rest =
      other_begun _ (ap statement_mark_at (append_assoc u _ rest) ∙ plain_at _ (plain_opens _ (opens_first false ht.1 _))) (piece_first whole (is_step_after o op target u ht a is) rest)
  simple_begun whole (is_step_before o op target u ht a is) rest =
      outside_is limit room quantifiers slot s.Step _ (rw (none_of is_step_sign assign_signs op refl is) (rw is refl))
  simple_begun whole (is_call_alone e u he a) rest =
      other_begun (u ++ rest) (plain_at _ (plain_opens _ (opens_first false he.1 rest))) (piece_first whole (is_call_alone e u he a) rest)

  simple_finished : (t : Statement) (p : Span) (ts rest : List Lexeme) → ReadsPiece limit room quantifiers true true (λ span. join span p) t ts (sign false ";" p ∷ rest)
      → simple_statement ts ≡ as_statement t rest
  unfolding spec.simple_statement
  simple_finished t p ts rest read =
      rw read.is (rw (took_sign false m.Semicolon (codes ";") p rest refl) (ap₂ (λ (z : Statement) (d : ℕ). read_as (sized z d) rest) read.made read.deep))

all_stand : (kind : Simple) → may_stand true true kind ≡ true
all_stand declares = refl
all_stand assigns = refl
all_stand calls = refl

pub simple_read : (limit : ℕ) (kind : Simple) (t : Statement) (p : Span) (u : List Lexeme) → SpellsSimple (λ span. join span p) kind t u → length u ≤ limit
    → IsStatement limit t (u ++ sign false ";" p ∷ [])
simple_read limit kind t p u h short =
    from_outside (λ room quantifiers slot rest fits deep flat stops.
    ap (outside limit room quantifiers slot) (append_assoc u (sign false ";" p ∷ []) rest)
    ∙ simple_begun limit room quantifiers slot (λ span. join span p) h (sign false ";" p ∷ rest)
    ∙ simple_finished limit room quantifiers slot t p (u ++ sign false ";" p ∷ rest) rest
    (piece_read limit room quantifiers true true (λ span. join span p) kind t u (sign false ";" p ∷ rest) h (all_stand kind) deep flat short (semicolon_closes false p rest)))
