-- What the program's values stand for.
use Rattle.std.specs.Prelude.{ℕ, Bool, Option, Some, None, List}
use Rattle.jesc_text.specs.declared.place.Span.{Span}
use Rattle.jesc_ast.specs.declared.stmt.Stmt.{Stmt}
use Rattle.jesc_ast.specs.declared.stmt.StmtNode.{StmtNode}
use Rattle.jesc_ast.specs.Lexemes as ast
use Rattle.jesc_ast.specs.Trees.{Clause, Statement, OptionalStatement, statement_node_view, statement_view, optional_of, optional_view}
use Rattle.jesc_jml_grammar.specs.declared.cursor.Lexeme.{Lexeme}
use Rattle.jesc_jml_grammar.specs.declared.part.Measured as code_measured
use Rattle.jesc_jml_grammar.specs.ClauseFound.{Sized, with_more}
use Rattle.jesc_jml_grammar.specs.ClauseLists.{until}
use Rattle.jesc_jml_grammar.specs.Reading.{Parsed, Start, turns}
use Rattle.jesc_jml_grammar.specs.Seen.{lexeme}
use Rattle.jesc_jml_grammar.specs.Steps.{Parser}
use Rattle.jesc_java_grammar.specs.declared.make_statement.GhostHead as code_ghost
use Rattle.jesc_java_grammar.specs.Lexing.{next_is}
use Rattle.jesc_java_grammar.specs.StatementMarks.{is_invariant}
use Rattle.jesc_java_grammar.specs.StatementReading.{invariant}
use Rattle.jesc_java_grammar.specs.declared.make_loop.ForHead as code_for
use Rattle.jesc_java_grammar.specs.declared.make_attempt.CatchHead as code_catch
use Rattle.jesc_java_grammar.specs.StatementFound.{Piece, GhostHead, ForHead, CatchHead}
use Rattle.jesc_java_grammar.specs.FileReading.{expression_of}

abbrev pub optional_lexeme : Option Lexeme → Option ast.Lexeme
optional_lexeme None = None
optional_lexeme (Some x) = Some (lexeme x)

-- the statement that a node stands for, whatever its span
abbrev pub node_view : StmtNode → Span → Statement
node_view = statement_node_view

abbrev pub optional_statement : Option Stmt → OptionalStatement
optional_statement None = optional_of None
optional_statement (Some s) = optional_of (Some (statement_view s))

-- a simple statement without its semicolon
abbrev pub piece : code_measured.Measured Stmt → Piece
piece x = record { make = node_view x.tree.node; span = x.tree.span; depth = x.depth }

-- a rule over the parser of the expressions inside
abbrev pub part : {A : Type 0} → (ℕ → ℕ → (Bool → ℕ → ℕ → ℕ → Start → Parser Parsed) → ℕ → A) → ℕ → A
part p room = p turns room (expression_of turns) 3

abbrev pub ghost_head : code_ghost.GhostHead → GhostHead
ghost_head head = record { first = lexeme head.first; ty = head.ty; name = lexeme head.name; equals = lexeme head.equals }

-- the rest of a list of invariants, in so many turns
abbrev pub invariants_left : ℕ → ℕ → Sized (List Clause) → Parser (Sized (List Clause))
invariants_left room = until (next_is is_invariant) (part invariant room) with_more

abbrev pub for_head : code_for.ForHead → ForHead
for_head head = record { first = optional_statement head.first; test = optional_view head.test; last = optional_statement head.last; depth = head.depth }

abbrev pub catch_head : code_catch.CatchHead → CatchHead
catch_head head = record { is_final = head.is_final; class = lexeme head.class; name = lexeme head.name }
