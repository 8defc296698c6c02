-- Lists of statements, bodies and `catch` clauses are read, where the statements in them are.
use Rattle.std.proofs.Common.{◌≡◌, ℕ, zero, suc, ◌+◌, ◌≤◌, ◌<◌, max, Bool, true, false, not, List, [], ◌∷◌, ◌++◌, length, length-append, refl, sym, ap, ap₂, ◌∙◌, arith, append_assoc, append-nil, codes}
use Rattle.jesc_text.specs.declared.place.Span.{Span}
use Rattle.jesc_ast.specs.Lexemes.{Lexeme, sign, join}
use Rattle.jesc_ast.specs.Trees.{Statement, block, Statements, no_statements, more_statements, statements_of, Body, body}
use Rattle.jesc_ast.specs.Depth.{depth, nesting, of_statement, of_statements, of_body}
use Rattle.jesc_ast.specs.Statements.{SpellsStatement, SpellsStatements, no_more_statements, one_more_statement}
use Rattle.jesc_jml_grammar.specs.Steps.{Outcome}
use Rattle.jesc_jml_grammar.specs.ClauseLists.{until}
use Rattle.jesc_jml_grammar.specs.ClauseReading.{Sized, sized, no_items, with_more}
use Rattle.jesc_jml_parser.specs.laws.ClauseCompleteLists.{read_as, until_more, until_ends}
use Rattle.jesc_java_grammar.specs.declared.statement_mark.StatementMark.TheVariants as s
use Rattle.jesc_java_grammar.specs.declared.statement_mark.Slot.TheVariants as slots
use Rattle.jesc_java_grammar.specs.Lexing.{is_word, is_sign, next_is}
use Rattle.jesc_java_grammar.specs.StatementMarks.{statement_mark_at}
use Rattle.jesc_java_grammar.specs.FileReading.{expression_of}
use Rattle.jesc_java_grammar.specs.StatementReading as spec
use Rattle.jesc_java_parser.proofs.CompleteLexing.{took_if, is_starting, starting_word, starting_sign}
use Rattle.jesc_java_parser.proofs.CompleteEdges.{goes_on_no, statement_starts, statement_some}
use Rattle.jesc_java_parser.proofs.CompleteBodies.{Fits, IsStatement, inside, outside, from_outside, outside_is}

-- ---- lists of statements

abbrev pub listed : Statements → List Statement
listed no_statements = []
listed (more_statements t ts) = t ∷ listed ts

pub statements_listed : (ts : Statements) → statements_of (listed ts) ≡ ts
statements_listed no_statements = refl
statements_listed (more_statements t ts) = ap (more_statements t) (statements_listed ts)

pub anywhere : (t : Statement) → Fits slots.Any t
anywhere t = record { branches = λ b. refl; loops = λ l. refl }

abbrev before_close : List Lexeme → Bool
before_close ts = not (next_is (is_sign (codes "}") false) ts)

pub record AreStatements (limit : ℕ) (ts : Statements) (u : List Lexeme) : Type 0 where
  pub is : (room quantifiers turns : ℕ) (found : Sized (List Statement)) (q : Span) (rest : List Lexeme) → length u < turns → of_statements depth 1 ts ≤ room
      → of_statements nesting 0 ts ≤ quantifiers
      → until before_close (inside limit room quantifiers slots.Any) with_more turns found (u ++ sign false "}" q ∷ rest)
      ≡ read_as (sized (found.tree ++ listed ts) (max found.depth (of_statements depth 1 ts))) (sign false "}" q ∷ rest)

pub no_more_read : (limit : ℕ) → AreStatements limit no_statements []
no_more_read limit = record {
  is = λ room quantifiers turns found q rest enough deep flat.
      let same : found.depth ≡ max found.depth 0 = omega arith in
      until_ends before_close (inside limit room quantifiers slots.Any) with_more turns found (sign false "}" q ∷ rest) enough refl
      ∙ ap₂ (λ (z : List Statement) (d : ℕ). read_as (sized z d) (sign false "}" q ∷ rest)) (sym (append-nil found.tree)) same;
}

-- neither `else` nor `catch` is next
pub record NoneGoesOn (ts : List Lexeme) : Type 0 where
  pub no_else : next_is (is_word (codes "else") false) ts ≡ false
  pub no_catch : next_is (is_word (codes "catch") false) ts ≡ false

pub behind_statement : {ts : Statements} {u : List Lexeme} → SpellsStatements ts u → (q : Span) (rest : List Lexeme) → NoneGoesOn (u ++ sign false "}" q ∷ rest)
behind_statement no_more_statements q rest = record { no_else = refl; no_catch = refl }
behind_statement (one_more_statement t ts u v h more) q rest =
    let starts : is_starting (statement_mark_at ((u ++ v) ++ sign false "}" q ∷ rest)) ≡ true =
    ap (λ (z : List Lexeme). is_starting (statement_mark_at z)) (append_assoc u v (sign false "}" q ∷ rest)) ∙ statement_starts h (v ++ sign false "}" q ∷ rest) in
    record {
      no_else = starting_word (codes "else") s.Else refl refl _ starts;
      no_catch = starting_word (codes "catch") s.Catch refl refl _ starts;
    }

one_more_turn : (limit room quantifiers turns : ℕ) (found : Sized (List Statement)) (t : Statement) (ts : Statements) (u v : List Lexeme) → SpellsStatement t u → SpellsStatements ts v
    → IsStatement limit t u → AreStatements limit ts v → (q : Span) (rest : List Lexeme) → length (u ++ v) < turns → max (of_statement depth 1 t) (of_statements depth 1 ts) ≤ room
    → max (of_statement nesting 0 t) (of_statements nesting 0 ts) ≤ quantifiers
    → until before_close (inside limit room quantifiers slots.Any) with_more turns found ((u ++ v) ++ sign false "}" q ∷ rest)
    ≡ read_as (sized (found.tree ++ t ∷ listed ts) (max found.depth (max (of_statement depth 1 t) (of_statements depth 1 ts)))) (sign false "}" q ∷ rest)
one_more_turn limit room quantifiers zero found t ts u v h more read others q rest enough deep flat = absurd (omega arith)
one_more_turn limit room quantifiers (suc turns) found t ts u v h more read others q rest enough deep flat =
    let close : List Lexeme = sign false "}" q ∷ rest in
    let item = inside limit room quantifiers slots.Any in
    let one = sized t (of_statement depth 1 t) in
    let none = behind_statement more q rest in
    let same : max (max found.depth (of_statement depth 1 t)) (of_statements depth 1 ts) ≡ max found.depth (max (of_statement depth 1 t) (of_statements depth 1 ts)) = omega arith in
    ap (until before_close item with_more (suc turns) found) (append_assoc u v close)
    ∙ until_more before_close item with_more turns found one (u ++ (v ++ close)) (v ++ close)
    (ap not (starting_sign (codes "}") s.RightBrace refl refl (u ++ (v ++ close)) (statement_starts h (v ++ close))))
    (read.is room quantifiers slots.Any (v ++ close) (anywhere t) (omega arith) (omega arith) (goes_on_no t (v ++ close) none.no_else none.no_catch))
    ∙ others.is room quantifiers turns (with_more found one) q rest (omega (arith, length-append u v, statement_some h)) (omega arith) (omega arith)
    ∙ ap₂ (λ (z : List Statement) (d : ℕ). read_as (sized z d) close) (append_assoc found.tree (t ∷ []) (listed ts)) same

pub one_more_read : (limit : ℕ) (t : Statement) (ts : Statements) (u v : List Lexeme) → SpellsStatement t u → SpellsStatements ts v → IsStatement limit t u → AreStatements limit ts v
    → AreStatements limit (more_statements t ts) (u ++ v)
one_more_read limit t ts u v h more read others = record {
  is = λ room quantifiers turns found q rest enough deep flat. one_more_turn limit room quantifiers turns found t ts u v h more read others q rest enough deep flat;
}

-- ---- bodies

abbrev pub as_body : Body → List Lexeme → Outcome (Sized Body)
as_body b rest = read_as (sized b (of_body depth 1 b)) rest

module _ (limit room quantifiers : ℕ) where
  pub body_rest_read : (found : Sized (List Statement)) (ts : Statements) (u : List Lexeme) → AreStatements limit ts u → (q : Span) (rest : List Lexeme) → length u < limit
      → of_statements depth 1 ts ≤ room → of_statements nesting 0 ts ≤ quantifiers
      → spec.body_rest limit room (expression_of limit) quantifiers (inside limit room quantifiers) found (u ++ sign false "}" q ∷ rest)
      ≡ read_as (sized (body (statements_of (found.tree ++ listed ts)) q) (max found.depth (of_statements depth 1 ts))) rest
  unfolding spec.body_rest spec.statements
  body_rest_read found ts u read q rest short deep flat =
      rw (read.is room quantifiers limit found q rest short deep flat) (rw (took_if (is_sign (codes "}") false) (sign false "}" q) rest refl) refl)

  pub body_alone : (ts : Statements) (u : List Lexeme) → AreStatements limit ts u → (q : Span) (rest : List Lexeme) → length u < limit → of_statements depth 1 ts ≤ room
      → of_statements nesting 0 ts ≤ quantifiers
      → spec.body_rest limit room (expression_of limit) quantifiers (inside limit room quantifiers) no_items (u ++ sign false "}" q ∷ rest) ≡ as_body (body ts q) rest
  body_alone ts u read q rest short deep flat =
      let same : max 0 (of_statements depth 1 ts) ≡ of_statements depth 1 ts = omega arith in
      body_rest_read no_items ts u read q rest short deep flat ∙ ap₂ (λ (z : Statements) (d : ℕ). read_as (sized (body z q) d) rest) (statements_listed ts) same

  pub braced_read : (ts : Statements) (p q : Span) (u : List Lexeme) → AreStatements limit ts u → (rest : List Lexeme) → length u < limit → of_statements depth 1 ts ≤ room
      → of_statements nesting 0 ts ≤ quantifiers
      → spec.braced limit room (expression_of limit) quantifiers (inside limit room quantifiers) (sign false "{" p ∷ (u ++ sign false "}" q ∷ rest)) ≡ as_body (body ts q) rest
  unfolding spec.braced
  braced_read ts p q u read rest short deep flat =
      rw (took_if (is_sign (codes "{") false) (sign false "{" p) (u ++ sign false "}" q ∷ rest) refl) (body_alone ts u read q rest short deep flat)

  block_read : (ts : Statements) (p q : Span) (u : List Lexeme) → AreStatements limit ts u → (rest : List Lexeme) → length u < limit → of_statements depth 1 ts ≤ room
      → of_statements nesting 0 ts ≤ quantifiers
      → spec.block_ limit room (expression_of limit) quantifiers (inside limit room quantifiers) (sign false "{" p ∷ (u ++ sign false "}" q ∷ rest))
      ≡ read_as (sized (block (join p q) (body ts q)) (of_statements depth 1 ts + 1)) rest
  unfolding spec.block_
  block_read ts p q u read rest short deep flat =
      rw (took_if (is_sign (codes "{") false) (sign false "{" p) (u ++ sign false "}" q ∷ rest) refl) (rw (body_alone ts u read q rest short deep flat) refl)

pub block_is : (limit : ℕ) (ts : Statements) (p q : Span) (u : List Lexeme) → AreStatements limit ts u → length u < limit
    → IsStatement limit (block (join p q) (body ts q)) (sign false "{" p ∷ (u ++ sign false "}" q ∷ []))
unfolding statement_mark_at
block_is limit ts p q u read short =
    from_outside (λ room quantifiers slot rest fits deep flat stops.
    ap (λ (z : List Lexeme). outside limit room quantifiers slot (sign false "{" p ∷ z)) (append_assoc u (sign false "}" q ∷ []) rest)
    ∙ outside_is limit room quantifiers slot s.LeftBrace (sign false "{" p ∷ (u ++ sign false "}" q ∷ rest)) refl
    ∙ block_read limit room quantifiers ts p q u read rest short (omega arith) (omega arith))

-- a body that stands between braces, the first of which stands there
pub record IsBody (limit : ℕ) (b : Body) (u : List Lexeme) : Type 0 where
  pub is : (room quantifiers : ℕ) (rest : List Lexeme) → of_body depth 1 b ≤ room → of_body nesting 0 b ≤ quantifiers
      → spec.braced limit room (expression_of limit) quantifiers (inside limit room quantifiers) (u ++ rest) ≡ as_body b rest

pub body_is : (limit : ℕ) (ts : Statements) (p q : Span) (u : List Lexeme) → AreStatements limit ts u → length u < limit
    → IsBody limit (body ts q) (sign false "{" p ∷ (u ++ sign false "}" q ∷ []))
body_is limit ts p q u read short = record {
  is = λ room quantifiers rest deep flat.
      ap (λ (z : List Lexeme). spec.braced limit room (expression_of limit) quantifiers (inside limit room quantifiers) (sign false "{" p ∷ z)) (append_assoc u (sign false "}" q ∷ []) rest)
      ∙ braced_read limit room quantifiers ts p q u read rest short deep flat;
}
