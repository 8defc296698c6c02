-- What the parser of statements reads, and the trees of their parts.
use Rattle.std.specs.Prelude.{ℕ, ◌+◌, max, Bool, true, false, Option, Some, None, List}
use Rattle.jesc_text.specs.declared.place.Span.{Span}
use Rattle.jesc_ast.specs.declared.word.TypeTree.{TypeTree}
use Rattle.jesc_ast.specs.Lexemes.{Lexeme, join}
use Rattle.jesc_ast.specs.Trees.{break, continue, empty, Expression, expressions_of, Clause, Statement, block, local, ghost_local, assign, call_statement, branch, while_loop, for_loop, return, throw, attempt, assertion, set_statement, super_call, Body, body, Catch, catch, statements_of, catches_of, OptionalStatement, no_statement, one_statement}
use Rattle.jesc_ast.specs.Expressions.{span_of}
use Rattle.jesc_ast.specs.Statements.{statement_span, body_end, catches_end}
use Rattle.jesc_jml_grammar.specs.Reading.{Parsed, Listed, word_of}
use Rattle.jesc_jml_grammar.specs.ClauseReading.{Sized, sized}

-- ---- what is read

-- A simple statement without its semicolon: what it is as a tree of some span, and the span of its lexemes.
pub record Piece : Type 0 where
  pub make : Span → Statement
  pub span : Span
  pub depth : ℕ

pub record ForHead : Type 0 where
  pub first : OptionalStatement
  pub test : Option Expression
  pub last : OptionalStatement
  pub depth : ℕ

-- the type, the name and the equals sign of a ghost local
pub record GhostHead : Type 0 where
  pub first : Lexeme
  pub ty : TypeTree
  pub name : Lexeme
  pub equals : Lexeme

pub record CatchHead : Type 0 where
  pub is_final : Bool
  pub class : Lexeme
  pub name : Lexeme

-- ---- trees of their parts

abbrev pub local_of : Span → Bool → TypeTree → Lexeme → Lexeme → Parsed → Piece
local_of first is_final t x q e = record {
  make = λ span. local span is_final t (word_of x) q.span e.tree;
  span = join first (span_of e.tree);
  depth = e.depth + 1;
}

abbrev pub assign_of : Parsed → Lexeme → Parsed → Piece
assign_of target op e = record {
  make = λ span. assign span target.tree (word_of op) false (Some e.tree);
  span = join (span_of target.tree) (span_of e.tree);
  depth = max target.depth e.depth + 1;
}

abbrev pub step_after_of : Parsed → Lexeme → Piece
step_after_of target op = record {
  make = λ span. assign span target.tree (word_of op) false None;
  span = join (span_of target.tree) op.span;
  depth = target.depth + 1;
}

abbrev pub step_before_of : Lexeme → Parsed → Piece
step_before_of op target = record {
  make = λ span. assign span target.tree (word_of op) true None;
  span = join op.span (span_of target.tree);
  depth = target.depth + 1;
}

abbrev pub call_of : Parsed → Piece
call_of e = record { make = λ span. call_statement span e.tree; span = span_of e.tree; depth = e.depth + 1 }

-- the statement that ends with this semicolon
abbrev pub finished : Piece → Lexeme → Sized Statement
finished piece p = sized (piece.make (join piece.span p.span)) piece.depth

abbrev pub part_of : Piece → Sized OptionalStatement
part_of piece = sized (one_statement (piece.make piece.span)) piece.depth

abbrev pub no_part : Sized OptionalStatement
no_part = sized no_statement 0

abbrev pub some_value : Parsed → Sized (Option Expression)
some_value e = sized (Some e.tree) e.depth

abbrev pub no_value : Sized (Option Expression)
no_value = sized None 0

abbrev pub body_of : Sized (List Statement) → Lexeme → Sized Body
body_of ss q = sized (body (statements_of ss.tree) q.span) ss.depth

abbrev pub block_of : Lexeme → Sized Body → Sized Statement
block_of p b = sized (block (join p.span (body_end b.tree)) b.tree) (b.depth + 1)

abbrev pub branch_of : Lexeme → Parsed → Sized Statement → Sized Statement
branch_of r test first =
    sized (branch (join r.span (statement_span first.tree)) test.tree first.tree no_statement) (max test.depth first.depth + 1)

abbrev pub branch_else_of : Lexeme → Parsed → Sized Statement → Sized Statement → Sized Statement
branch_else_of r test first other =
    sized (branch (join r.span (statement_span other.tree)) test.tree first.tree (one_statement other.tree)) (max (max test.depth first.depth) other.depth + 1)

abbrev pub while_of : Sized (List Clause) → Lexeme → Parsed → Sized Statement → Sized Statement
while_of cs r test turn =
    sized (while_loop (join r.span (statement_span turn.tree)) cs.tree test.tree turn.tree) (max (max cs.depth test.depth) turn.depth + 1)

abbrev pub head_of : Sized OptionalStatement → Sized (Option Expression) → Sized OptionalStatement → ForHead
head_of first test last = record { first = first.tree; test = test.tree; last = last.tree; depth = max first.depth (max test.depth last.depth) }

abbrev pub for_of : Sized (List Clause) → Lexeme → ForHead → Sized Statement → Sized Statement
for_of cs r head turn =
    sized (for_loop (join r.span (statement_span turn.tree)) cs.tree head.first head.test head.last turn.tree) (max (max cs.depth head.depth) turn.depth + 1)

abbrev pub return_of : Lexeme → Sized (Option Expression) → Lexeme → Sized Statement
return_of r e p = sized (return (join r.span p.span) e.tree) (e.depth + 1)

abbrev pub throw_of : Lexeme → Parsed → Lexeme → Sized Statement
throw_of r e p = sized (throw (join r.span p.span) e.tree) (e.depth + 1)

abbrev pub break_of : Lexeme → Lexeme → Sized Statement
break_of r p = sized (break (join r.span p.span)) 1

abbrev pub continue_of : Lexeme → Lexeme → Sized Statement
continue_of r p = sized (continue (join r.span p.span)) 1

abbrev pub empty_of : Lexeme → Sized Statement
empty_of p = sized (empty p.span) 1

abbrev pub catch_of : CatchHead → Sized Body → Sized Catch
catch_of head b = sized (catch head.is_final (word_of head.class) (word_of head.name) b.tree) b.depth

abbrev pub attempt_of : Lexeme → Sized Body → Sized (List Catch) → Sized Statement
attempt_of r b cs =
    sized (attempt (join r.span (catches_end (body_end b.tree) (catches_of cs.tree))) b.tree (catches_of cs.tree)) (max b.depth cs.depth + 1)

abbrev pub assertion_of : Lexeme → Parsed → Lexeme → Sized Statement
assertion_of r e p = sized (assertion (join r.span p.span) e.tree) (e.depth + 1)

abbrev pub set_of : Lexeme → Parsed → Lexeme → Parsed → Lexeme → Sized Statement
set_of r target q e p = sized (set_statement (join r.span p.span) target.tree q.span e.tree) (max target.depth e.depth + 1)

abbrev pub ghost_of : GhostHead → Parsed → Lexeme → Sized Statement
ghost_of head e p =
    sized (ghost_local (join head.first.span p.span) head.ty (word_of head.name) head.equals.span e.tree) (e.depth + 1)

abbrev pub super_call_of : Lexeme → Listed → Lexeme → Sized Statement
super_call_of r es p = sized (super_call (join r.span p.span) (expressions_of es.trees)) (es.depth + 1)
