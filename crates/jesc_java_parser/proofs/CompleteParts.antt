-- Conditions, invariants, the heads of loops and the statements of one word are read.
use Rattle.std.proofs.Common.{◌≡◌, ℕ, zero, suc, ◌≤◌, ◌<◌, max, Bool, true, false, List, [], ◌∷◌, ◌++◌, length, length-append, Option, Some, Ok, refl, sym, ap, ap₂, ◌∙◌, arith, append_assoc, append-nil, codes, IsTrue}
use Rattle.jesc_text.specs.declared.place.Span.{Span}
use Rattle.jesc_ast.specs.Lexemes.{Lexeme, sign, chosen_word, kept}
use Rattle.jesc_ast.specs.Trees.{Expression, Clause, clause}
use Rattle.jesc_ast.specs.Expressions.{SpellsExpression}
use Rattle.jesc_ast.specs.Depth.{depth, nesting, of_option, of_clauses}
use Rattle.jesc_ast.specs.Statements.{SpellsOption, is_missing, is_there, SpellsInvariants, no_clauses, more_clauses}
use Rattle.jesc_jml_grammar.specs.declared.mark.Mark.{Mark}
use Rattle.jesc_jml_grammar.specs.declared.mark.Mark.TheVariants as m
use Rattle.jesc_jml_grammar.specs.Steps.{mark_at, same_mark}
use Rattle.jesc_jml_grammar.specs.Reading.{opens, is_type_mark}
use Rattle.jesc_jml_parser.specs.laws.CompleteMarks.{took_sign, opens_first}
use Rattle.jesc_jml_parser.specs.laws.CompleteSteps.{parsed}
use Rattle.jesc_jml_parser.specs.laws.CompleteArguments.{closes_semicolon, closes_paren}
use Rattle.jesc_jml_grammar.specs.ClauseLists.{until}
use Rattle.jesc_jml_grammar.specs.ClauseReading.{Sized, sized, no_items, with_more}
use Rattle.jesc_jml_parser.specs.laws.ClauseCompleteLists.{read_as, until_more, until_ends}
use Rattle.jesc_java_grammar.specs.Lexing.{next_is}
use Rattle.jesc_java_grammar.specs.StatementMarks.{is_invariant, is_invariant_text}
use Rattle.jesc_java_grammar.specs.FileReading.{expression_of}
use Rattle.jesc_java_grammar.specs.StatementReading as spec
use Rattle.jesc_java_grammar.specs.StatementReading.{ForHead}
use Rattle.jesc_java_parser.proofs.CompleteLexing.{took_if}
use Rattle.jesc_java_parser.proofs.CompleteActs.{IsClosed, closed_by_sign, value_read}

-- ---- marks that end a part

-- neither a semicolon nor a closing parenthesis
abbrev pub is_part_mark : Mark → Bool
is_part_mark m.Semicolon = false
is_part_mark m.RightParen = false
is_part_mark _ = true

pub no_semicolon : (mark : Mark) → is_part_mark mark ≡ true → same_mark mark m.Semicolon ≡ false
unfolding same_mark
no_semicolon m.Semicolon p = absurd cc
no_semicolon _ p = refl

pub no_close : (mark : Mark) → is_part_mark mark ≡ true → same_mark mark m.RightParen ≡ false
unfolding same_mark
no_close m.RightParen p = absurd cc
no_close _ p = refl

pub opens_part : (mark : Mark) → opens mark ≡ true → is_part_mark mark ≡ true
opens_part m.Semicolon o = absurd cc
opens_part m.RightParen o = absurd cc
opens_part _ o = refl

pub type_part : (mark : Mark) → is_type_mark mark ≡ true → is_part_mark mark ≡ true
type_part m.Semicolon o = absurd cc
type_part m.RightParen o = absurd cc
type_part _ o = refl

pub semicolon_closes : (note : Bool) (p : Span) (rest : List Lexeme) → IsClosed note (sign note ";" p ∷ rest)
semicolon_closes note p rest = closed_by_sign note (codes ";") p rest closes_semicolon

pub paren_closes : (note : Bool) (p : Span) (rest : List Lexeme) → IsClosed note (sign note ")" p ∷ rest)
paren_closes note p rest = closed_by_sign note (codes ")") p rest closes_paren

-- ---- expressions of a statement

module _ (limit room quantifiers : ℕ) where
  pub before_semicolon : (note : Bool) (e : Expression) (u : List Lexeme) (h : SpellsExpression note e u) → depth e ≤ room → nesting e ≤ quantifiers → length u ≤ limit
      → (p : Span) (rest : List Lexeme) → spec.whole limit room (expression_of limit) quantifiers note (u ++ sign note ";" p ∷ rest) ≡ Ok (parsed h.0 e, sign note ";" p ∷ rest)
  before_semicolon note e u h deep flat short p rest = value_read note limit room quantifiers h.0 e u (sign note ";" p ∷ rest) h.1 deep flat short (semicolon_closes note p rest)

  there_read : (e : Expression) (u : List Lexeme) (h : SpellsExpression false e u) → depth e ≤ room → nesting e ≤ quantifiers → length u ≤ limit
      → (p : Span) (rest : List Lexeme)
      → spec.optional_value limit room (expression_of limit) quantifiers m.Semicolon (u ++ sign false ";" p ∷ rest) ≡ Ok (sized (Some e) (depth e), sign false ";" p ∷ rest)
  unfolding spec.optional_value
  there_read e u h deep flat short p rest =
      rw (no_semicolon (mark_at false (u ++ sign false ";" p ∷ rest)) (opens_part _ (opens_first false h.1 (sign false ";" p ∷ rest))))
      (rw (before_semicolon false e u h deep flat short p rest) refl)

  pub optional_read : (e : Option Expression) (u : List Lexeme) → SpellsOption false e u → of_option depth 1 e ≤ room → of_option nesting 0 e ≤ quantifiers → length u ≤ limit
      → (p : Span) (rest : List Lexeme)
      → spec.optional_value limit room (expression_of limit) quantifiers m.Semicolon (u ++ sign false ";" p ∷ rest) ≡ Ok (sized e (of_option depth 1 e), sign false ";" p ∷ rest)
  unfolding spec.optional_value mark_at same_mark
  optional_read _ _ is_missing deep flat short p rest = refl
  optional_read _ _ (is_there e u h) deep flat short p rest = there_read e u h deep flat short p rest

  pub condition_read : (e : Expression) (u : List Lexeme) (h : SpellsExpression false e u) → depth e ≤ room → nesting e ≤ quantifiers → length u ≤ limit
      → (p q : Span) (rest : List Lexeme)
      → spec.condition limit room (expression_of limit) quantifiers (sign false "(" p ∷ (u ++ sign false ")" q ∷ rest)) ≡ Ok (parsed h.0 e, rest)
  unfolding spec.condition
  condition_read e u h deep flat short p q rest =
      rw (took_sign false m.LeftParen (codes "(") p (u ++ sign false ")" q ∷ rest) refl)
      (rw (value_read false limit room quantifiers h.0 e u (sign false ")" q ∷ rest) h.1 deep flat short (paren_closes false q rest))
      (rw (took_sign false m.RightParen (codes ")") q rest refl) refl))

  -- ---- invariants

  invariant_read : (x : List ℕ) (s : Span) (e : Expression) (u : List Lexeme) (h : SpellsExpression true e u) → IsTrue (is_invariant_text x) → depth e ≤ room
      → nesting e ≤ quantifiers → length u ≤ limit → (p : Span) (rest : List Lexeme)
      → spec.invariant limit room (expression_of limit) quantifiers (chosen_word true x s ∷ (u ++ sign true ";" p ∷ rest)) ≡ Ok (sized (clause (kept true x s) e) (depth e), rest)
  unfolding spec.invariant
  invariant_read x s e u h is deep flat short p rest =
      rw (took_if is_invariant (chosen_word true x s) (u ++ sign true ";" p ∷ rest) is)
      (rw (before_semicolon true e u h deep flat short p rest) (rw (took_sign true m.Semicolon (codes ";") p rest refl) refl))

  invariants_from : (cs : List Clause) (t : List Lexeme) → SpellsInvariants cs t → (turns : ℕ) (found : Sized (List Clause)) (rest : List Lexeme) → length t < turns
      → of_clauses depth 1 cs ≤ room → of_clauses nesting 0 cs ≤ quantifiers → length t ≤ limit → next_is is_invariant rest ≡ false
      → until (next_is is_invariant) (spec.invariant limit room (expression_of limit) quantifiers) with_more turns found (t ++ rest)
      ≡ read_as (sized (found.tree ++ cs) (max found.depth (of_clauses depth 1 cs))) rest
  invariants_from _ _ no_clauses turns found rest enough deep flat short none =
      let same : found.depth ≡ max found.depth 0 = omega arith in
      until_ends (next_is is_invariant) (spec.invariant limit room (expression_of limit) quantifiers) with_more turns found rest enough none
      ∙ ap₂ (λ (z : List Clause) (d : ℕ). read_as (sized z d) rest) (sym (append-nil found.tree)) same
  invariants_from _ _ (more_clauses s p x e cs u v is h more) zero found rest enough deep flat short none = absurd (omega arith)
  invariants_from _ _ (more_clauses s p x e cs u v is h more) (suc turns) found rest enough deep flat short none =
      let lens = length-append u (sign true ";" p ∷ v) in
      let item = spec.invariant limit room (expression_of limit) quantifiers in
      let one = sized (clause (kept true x s) e) (depth e) in
      let same : max (max found.depth (depth e)) (of_clauses depth 1 cs) ≡ max found.depth (max (depth e) (of_clauses depth 1 cs)) = omega arith in
      ap (λ (z : List Lexeme). until (next_is is_invariant) item with_more (suc turns) found (chosen_word true x s ∷ z)) (append_assoc u (sign true ";" p ∷ v) rest)
      ∙ until_more (next_is is_invariant) item with_more turns found one (chosen_word true x s ∷ (u ++ sign true ";" p ∷ (v ++ rest))) (v ++ rest) is
      (invariant_read x s e u h is (omega arith) (omega arith) (omega arith) p (v ++ rest))
      ∙ invariants_from cs v more turns (with_more found one) rest (omega arith) (omega arith) (omega arith) (omega arith) none
      ∙ ap₂ (λ (z : List Clause) (d : ℕ). read_as (sized z d) rest) (append_assoc found.tree (clause (kept true x s) e ∷ []) cs) same

  pub invariants_read : (cs : List Clause) (t : List Lexeme) → SpellsInvariants cs t → (rest : List Lexeme) → of_clauses depth 1 cs ≤ room → of_clauses nesting 0 cs ≤ quantifiers
      → length t < limit → next_is is_invariant rest ≡ false
      → spec.invariants limit room (expression_of limit) quantifiers (t ++ rest) ≡ read_as (sized cs (of_clauses depth 1 cs)) rest
  unfolding spec.invariants
  invariants_read cs t h rest deep flat short none =
      let same : max 0 (of_clauses depth 1 cs) ≡ of_clauses depth 1 cs = omega arith in
      invariants_from cs t h limit no_items rest short deep flat (omega arith) none ∙ ap (λ (d : ℕ). read_as (sized cs d) rest) same
