-- A function value that parses statements with so much room.
use Rattle.std.specs.Prelude.{◌≡◌, ℕ, ◌≤◌, Bool, false, List, Result, IfOk}
use Rattle.std.specs.declared.alloc.Global.{Global}
use denote.Ref.{MutBor}
use Rattle.jesc_ast.specs.declared.stmt.Stmt.{Stmt}
use Rattle.jesc_ast.specs.Trees.{Statement, statement_view}
use Rattle.jesc_jml_grammar.specs.declared.fault.ParseError.{ParseError}
use Rattle.jesc_jml_grammar.specs.declared.cursor.Cursor.{Cursor}
use Rattle.jesc_jml_grammar.specs.declared.part.Measured.{Measured}
use Rattle.jesc_jml_grammar.specs.Reading.{Parsed, Start, turns}
use Rattle.jesc_jml_grammar.specs.Seen.{seen, IsKept}
use Rattle.jesc_jml_grammar.specs.Steps.{Parser, Reads}
use Rattle.jesc_jml_grammar.specs.ClauseFound.{Sized, with_more}
use Rattle.jesc_jml_grammar.specs.ClauseLists.{until}
use Rattle.jesc_jml_grammar.specs.ClauseSeen.{measured}
use Rattle.jesc_java_grammar.specs.declared.statement_mark.Slot.{Slot}
use Rattle.jesc_java_grammar.specs.declared.statement_mark.Slot.TheVariants as slots
use Rattle.jesc_java_grammar.specs.FileMarks.{before_brace}
use Rattle.jesc_java_grammar.specs.FileReading.{expression_of}
use Rattle.jesc_java_grammar.specs.StatementReading.{statement}

-- statements of so many nodes from their root to a leaf
abbrev pub statement_within : ℕ → Slot → Parser (Sized Statement)
statement_within room slot = statement turns (expression_of turns) 3 room slot

-- a rule over the parser of the statements inside
abbrev pub over : {A : Type 0} → (ℕ → ℕ → (Bool → ℕ → ℕ → ℕ → Start → Parser Parsed) → ℕ → (Slot → Parser (Sized Statement)) → A) → ℕ → A
over p room = p turns room (expression_of turns) 3 (statement_within room)

-- the rest of a list of statements
abbrev pub more_statements : ℕ → ℕ → Sized (List Statement) → Parser (Sized (List Statement))
more_statements room = until before_brace (statement_within room slots.Any) with_more

pub record NestsStatement (room : ℕ) (pre : Global → MutBor Cursor → ℕ → Slot → Type 0)
    (post : Global → MutBor Cursor → ℕ → Slot → Result (Measured Stmt) ParseError → MutBor Cursor → Type 0) : Type 0 where
  pub callable : (alloc : Global) (old : MutBor Cursor) (slot : Slot) → old.now.note ≡ false → pre alloc old room slot
  pub reads : (alloc : Global) (old new : MutBor Cursor) (slot : Slot) (r : Result (Measured Stmt) ParseError) → post alloc old room slot r new
      → Reads (measured statement_view) (statement_within room slot (seen old.now)) r (seen new.now)
  pub kept : (alloc : Global) (old new : MutBor Cursor) (slot : Slot) (r : Result (Measured Stmt) ParseError) → post alloc old room slot r new
      → IsKept old.now new.now
  pub bounded : (alloc : Global) (old new : MutBor Cursor) (slot : Slot) (r : Result (Measured Stmt) ParseError) → post alloc old room slot r new
      → IfOk r (λ f. f.depth ≤ room)
