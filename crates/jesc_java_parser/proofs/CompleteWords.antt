-- The heads of `for` loops and the statements of one word are read.
use Rattle.std.proofs.Common.{◌≡◌, ℕ, suc, ◌≤◌, max, true, false, List, ◌∷◌, ◌++◌, length, Option, Ok, refl, ap, ap₂, ◌∙◌, arith, append_assoc, codes, IsTrue}
use Rattle.jesc_text.specs.declared.place.Span.{Span}
use Rattle.jesc_ast.specs.declared.word.TypeTree.{TypeTree}
use Rattle.jesc_ast.specs.Lexemes.{Lexeme, word, sign, chosen_word, kept, join}
use Rattle.jesc_ast.specs.Words.{is_name}
use Rattle.jesc_ast.specs.Trees.{Expression, Statement, return, throw, break, continue, empty, assertion, set_statement, ghost_local, OptionalStatement, one_statement}
use Rattle.jesc_ast.specs.Expressions.{SpellsExpression, SpellsType, is_plain_type, is_array_type}
use Rattle.jesc_ast.specs.Depth.{depth, nesting, of_option, of_optional, of_statement}
use Rattle.jesc_ast.specs.Statements.{is_target, is_step_sign, SpellsOption, Simple, declares, assigns, calls, SpellsSimple, is_local, is_final_local, is_assignment, is_step_after, is_step_before, is_call_alone, may_begin_for, may_end_turn, SpellsHeadPart, no_part, one_part}
use Rattle.jesc_jml_grammar.specs.declared.mark.Mark.TheVariants as m
use Rattle.jesc_jml_grammar.specs.Marks as marks
use Rattle.jesc_jml_grammar.specs.Steps.{Outcome, mark_at, same_mark}
use Rattle.jesc_jml_parser.specs.laws.CompleteMarks.{name_at, type_word_at, took_sign, took_name, opens_first}
use Rattle.jesc_jml_parser.specs.laws.ClauseSoundMarks.{of_one_of}
use Rattle.jesc_jml_grammar.specs.ClauseReading.{Sized, sized}
use Rattle.jesc_java_grammar.specs.Lexing.{is_word, is_sign}
use Rattle.jesc_java_grammar.specs.FileReading.{expression_of}
use Rattle.jesc_java_grammar.specs.StatementReading as spec
use Rattle.jesc_java_parser.proofs.CompleteLexing.{took_if, step_signs}
use Rattle.jesc_java_parser.proofs.CompleteActs.{closed_by_sign, ends_before, plain_sign, type_read}
use Rattle.jesc_java_parser.proofs.CompleteTargets.{target_read}
use Rattle.jesc_java_parser.proofs.CompletePieces.{may_stand, ReadsPiece, piece_read}
use Rattle.jesc_java_parser.proofs.CompleteParts.{is_part_mark, opens_part, type_part, no_semicolon, no_close, semicolon_closes, paren_closes, before_semicolon, optional_read}

-- ---- the parts of a head

part_sign : (x : List ℕ) → is_step_sign x ≡ true → is_part_mark (marks.sign_mark false x) ≡ true
part_sign x e = of_one_of (λ y. is_part_mark (marks.sign_mark false y) ≡ true) step_signs x (refl, (refl, tt)) e

further : (u w rest : List Lexeme) → ((more : List Lexeme) → is_part_mark (mark_at false (u ++ more)) ≡ true) → is_part_mark (mark_at false ((u ++ w) ++ rest)) ≡ true
further u w rest h = ap (λ (z : List Lexeme). is_part_mark (mark_at false z)) (append_assoc u w rest) ∙ h (w ++ rest)

type_first : {t : TypeTree} {u : List Lexeme} → SpellsType false t u → (rest : List Lexeme) → is_part_mark (mark_at false (u ++ rest)) ≡ true
unfolding mark_at
type_first (is_plain_type s x t) rest = type_part _ (type_word_at false x s t)
type_first (is_array_type s p q x t) rest = type_part _ (type_word_at false x s t)

pub piece_first : (whole : Span → Span) {kind : Simple} {t : Statement} {u : List Lexeme} → SpellsSimple whole kind t u → (rest : List Lexeme)
    → is_part_mark (mark_at false (u ++ rest)) ≡ true
unfolding mark_at
piece_first whole (is_local equals n t x e u v ht named he) rest = further u _ rest (type_first ht)
piece_first whole (is_final_local f equals n t x e u v ht named he) rest = refl
piece_first whole (is_assignment o op target e u v ht a is he) rest = further u _ rest (λ more. opens_part _ (opens_first false ht.1 more))
piece_first whole (is_step_after o op target u ht a is) rest = further u _ rest (λ more. opens_part _ (opens_first false ht.1 more))
piece_first whole (is_step_before o op target u ht a is) rest = part_sign op is
piece_first whole (is_call_alone e u he a) rest = opens_part _ (opens_first false he.1 rest)

may_begin : (kind : Simple) → may_begin_for kind ≡ true → may_stand true false kind ≡ true
may_begin declares e = refl
may_begin assigns e = refl
may_begin calls e = absurd cc

may_end : (kind : Simple) → may_end_turn kind ≡ true → may_stand false true kind ≡ true
may_end declares e = absurd cc
may_end assigns e = refl
may_end calls e = refl

abbrev as_part : OptionalStatement → ℕ → List Lexeme → Outcome (Sized OptionalStatement)
as_part s d rest = Ok (sized s d, rest)

module _ (limit room quantifiers : ℕ) where
  first_piece : (kind : Simple) (t : Statement) (u rest : List Lexeme) → SpellsSimple (λ span. span) kind t u → ReadsPiece limit room quantifiers true false (λ span. span) t (u ++ rest) rest
      → spec.for_first limit room (expression_of limit) quantifiers (u ++ rest) ≡ as_part (one_statement t) (of_statement depth 1 t) rest
  unfolding spec.for_first
  first_piece kind t u rest h read =
      rw (no_semicolon (mark_at false (u ++ rest)) (piece_first (λ span. span) h rest)) (rw read.is (ap₂ (λ (z : Statement) (d : ℕ). as_part (one_statement z) d rest) read.made read.deep))

  last_piece : (kind : Simple) (t : Statement) (u rest : List Lexeme) → SpellsSimple (λ span. span) kind t u → ReadsPiece limit room quantifiers false true (λ span. span) t (u ++ rest) rest
      → spec.for_last limit room (expression_of limit) quantifiers (u ++ rest) ≡ as_part (one_statement t) (of_statement depth 1 t) rest
  unfolding spec.for_last
  last_piece kind t u rest h read =
      rw (no_close (mark_at false (u ++ rest)) (piece_first (λ span. span) h rest)) (rw read.is (ap₂ (λ (z : Statement) (d : ℕ). as_part (one_statement z) d rest) read.made read.deep))

  pub for_first_read : (s : OptionalStatement) (u : List Lexeme) → SpellsHeadPart may_begin_for s u → of_optional depth 1 s ≤ suc room → of_optional nesting 0 s ≤ quantifiers
      → length u ≤ limit → (p : Span) (rest : List Lexeme)
      → spec.for_first limit room (expression_of limit) quantifiers (u ++ sign false ";" p ∷ rest) ≡ as_part s (of_optional depth 1 s) (sign false ";" p ∷ rest)
  unfolding spec.for_first mark_at same_mark
  for_first_read _ _ no_part deep flat short p rest = refl
  for_first_read _ _ (one_part kind t u h may) deep flat short p rest =
      first_piece kind t u (sign false ";" p ∷ rest) h
      (piece_read limit room quantifiers true false (λ span. span) kind t u (sign false ";" p ∷ rest) h (may_begin kind may) deep flat short (semicolon_closes false p rest))

  pub for_last_read : (s : OptionalStatement) (u : List Lexeme) → SpellsHeadPart may_end_turn s u → of_optional depth 1 s ≤ suc room → of_optional nesting 0 s ≤ quantifiers
      → length u ≤ limit → (q : Span) (rest : List Lexeme)
      → spec.for_last limit room (expression_of limit) quantifiers (u ++ sign false ")" q ∷ rest) ≡ as_part s (of_optional depth 1 s) (sign false ")" q ∷ rest)
  unfolding spec.for_last mark_at same_mark
  for_last_read _ _ no_part deep flat short q rest = refl
  for_last_read _ _ (one_part kind t u h may) deep flat short q rest =
      last_piece kind t u (sign false ")" q ∷ rest) h
      (piece_read limit room quantifiers false true (λ span. span) kind t u (sign false ")" q ∷ rest) h (may_end kind may) deep flat short (paren_closes false q rest))

-- ---- statements of one word

abbrev pub as_statement : Statement → List Lexeme → Outcome (Sized Statement)
as_statement t rest = Ok (sized t (of_statement depth 1 t), rest)

module _ (limit room quantifiers : ℕ) where
  pub returned_read : (r p : Span) (e : Option Expression) (u rest : List Lexeme) → SpellsOption false e u → of_option depth 1 e ≤ room → of_option nesting 0 e ≤ quantifiers
      → length u ≤ limit
      → spec.returned limit room (expression_of limit) quantifiers (word false "return" r ∷ (u ++ sign false ";" p ∷ rest)) ≡ as_statement (return (join r p) e) rest
  unfolding spec.returned
  returned_read r p e u rest h deep flat short =
      rw (took_if (is_word (codes "return") false) (word false "return" r) (u ++ sign false ";" p ∷ rest) refl)
      (rw (optional_read limit room quantifiers e u h deep flat short p rest) (rw (took_sign false m.Semicolon (codes ";") p rest refl) refl))

  pub thrown_read : (r p : Span) (e : Expression) (u rest : List Lexeme) (h : SpellsExpression false e u) → depth e ≤ room → nesting e ≤ quantifiers → length u ≤ limit
      → spec.thrown limit room (expression_of limit) quantifiers (word false "throw" r ∷ (u ++ sign false ";" p ∷ rest)) ≡ as_statement (throw (join r p) e) rest
  unfolding spec.thrown
  thrown_read r p e u rest h deep flat short =
      rw (took_if (is_word (codes "throw") false) (word false "throw" r) (u ++ sign false ";" p ∷ rest) refl)
      (rw (before_semicolon limit room quantifiers false e u h deep flat short p rest) (rw (took_sign false m.Semicolon (codes ";") p rest refl) refl))

  pub broken_read : (r p : Span) (rest : List Lexeme)
      → spec.broken limit room (expression_of limit) quantifiers (word false "break" r ∷ sign false ";" p ∷ rest) ≡ as_statement (break (join r p)) rest
  unfolding spec.broken
  broken_read r p rest = rw (took_if (is_word (codes "break") false) (word false "break" r) (sign false ";" p ∷ rest) refl) (rw (took_sign false m.Semicolon (codes ";") p rest refl) refl)

  pub continued_read : (r p : Span) (rest : List Lexeme)
      → spec.continued limit room (expression_of limit) quantifiers (word false "continue" r ∷ sign false ";" p ∷ rest) ≡ as_statement (continue (join r p)) rest
  unfolding spec.continued
  continued_read r p rest =
      rw (took_if (is_word (codes "continue") false) (word false "continue" r) (sign false ";" p ∷ rest) refl) (rw (took_sign false m.Semicolon (codes ";") p rest refl) refl)

  pub nothing_read : (p : Span) (rest : List Lexeme) → spec.nothing limit room (expression_of limit) quantifiers (sign false ";" p ∷ rest) ≡ as_statement (empty p) rest
  unfolding spec.nothing
  nothing_read p rest = rw (took_sign false m.Semicolon (codes ";") p rest refl) refl

  pub asserted_read : (r p : Span) (e : Expression) (u rest : List Lexeme) (h : SpellsExpression true e u) → depth e ≤ room → nesting e ≤ quantifiers → length u ≤ limit
      → spec.asserted limit room (expression_of limit) quantifiers (word true "assert" r ∷ (u ++ sign true ";" p ∷ rest)) ≡ as_statement (assertion (join r p) e) rest
  unfolding spec.asserted
  asserted_read r p e u rest h deep flat short =
      rw (took_if (is_word (codes "assert") true) (word true "assert" r) (u ++ sign true ";" p ∷ rest) refl)
      (rw (before_semicolon limit room quantifiers true e u h deep flat short p rest) (rw (took_sign true m.Semicolon (codes ";") p rest refl) refl))

  pub set_read : (r equals p : Span) (target e : Expression) (u v rest : List Lexeme) (ht : SpellsExpression true target u) → is_target target ≡ true
      → (h : SpellsExpression true e v) → max (depth target) (depth e) ≤ room → max (nesting target) (nesting e) ≤ quantifiers → length u ≤ limit → length v ≤ limit
      → spec.set_ limit room (expression_of limit) quantifiers (word true "set" r ∷ (u ++ sign true "=" equals ∷ (v ++ sign true ";" p ∷ rest)))
      ≡ as_statement (set_statement (join r p) target equals e) rest
  unfolding spec.set_
  set_read r equals p target e u v rest ht is h deep flat short few =
      let behind : List Lexeme = v ++ sign true ";" p ∷ rest in
      rw (took_if (is_word (codes "set") true) (word true "set" r) (u ++ sign true "=" equals ∷ behind) refl)
      (rw (target_read limit room quantifiers true ht.0 target u (sign true "=" equals ∷ behind) ht.1 is (omega arith) (omega arith) short
      (ends_before true ht.1 11 (omega arith) (sign true "=" equals ∷ behind) (closed_by_sign true (codes "=") equals behind plain_sign)))
      (rw (took_if (is_sign (codes "=") true) (sign true "=" equals) behind refl)
      (rw (before_semicolon limit room quantifiers true e v h (omega arith) (omega arith) few p rest) (rw (took_sign true m.Semicolon (codes ";") p rest refl) refl))))

  pub ghost_read : (r n equals p : Span) (t : TypeTree) (x : List ℕ) (e : Expression) (u v rest : List Lexeme) → SpellsType true t u → IsTrue (is_name x)
      → (h : SpellsExpression true e v) → depth e ≤ room → nesting e ≤ quantifiers → length v ≤ limit
      → spec.ghost_ limit room (expression_of limit) quantifiers (word true "ghost" r ∷ (u ++ chosen_word true x n ∷ sign true "=" equals ∷ (v ++ sign true ";" p ∷ rest)))
      ≡ as_statement (ghost_local (join r p) t (kept true x n) equals e) rest
  unfolding spec.ghost_ spec.ghost_head mark_at
  ghost_read r n equals p t x e u v rest ht named h deep flat few =
      let behind : List Lexeme = v ++ sign true ";" p ∷ rest in
      rw (took_if (is_word (codes "ghost") true) (word true "ghost" r) (u ++ chosen_word true x n ∷ sign true "=" equals ∷ behind) refl)
      (rw (type_read limit room quantifiers true ht (chosen_word true x n ∷ sign true "=" equals ∷ behind) (name_at true x n named))
      (rw (took_name true x n (sign true "=" equals ∷ behind) named)
      (rw (took_if (is_sign (codes "=") true) (sign true "=" equals) behind refl)
      (rw (before_semicolon limit room quantifiers true e v h deep flat few p rest) (rw (took_sign true m.Semicolon (codes ";") p rest refl) refl)))))
