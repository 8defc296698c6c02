-- What a parser of the program gives, and a function value that parses expressions with so much room.
use Rattle.std.specs.Prelude.{ℕ, ◌≤◌, Bool, map, Result, IfOk}
use Rattle.std.specs.declared.alloc.Global.{Global}
use denote.Ref.{MutBor}
use Rattle.jesc_ast.specs.declared.expr.Receiver as code_receiver
use Rattle.jesc_ast.specs.Trees.{Expression, Receiver, view, receiver_view}
use Rattle.jesc_jml_grammar.specs.declared.fault.ParseError.{ParseError}
use Rattle.jesc_jml_grammar.specs.declared.cursor.Cursor.{Cursor}
use Rattle.jesc_jml_grammar.specs.declared.found.Found.{Found}
use Rattle.jesc_jml_grammar.specs.declared.found.FoundList.{FoundList}
use Rattle.jesc_jml_grammar.specs.declared.found.Start as code
use Rattle.jesc_jml_grammar.specs.declared.found.Start.TheVariants as starts
use Rattle.jesc_jml_grammar.specs.declared.found.Bounds as limits
use Rattle.jesc_jml_grammar.specs.Steps.{Parser, Reads}
use Rattle.jesc_jml_grammar.specs.Reading.{Parsed, Listed, Start, at_first, behind_name, behind_bracket, Bounds, expr, turns}
use Rattle.jesc_jml_grammar.specs.Seen.{seen, lexeme, IsKept}

abbrev pub parsed : Found → Parsed
parsed f = record { tree = view f.expr; depth = f.depth; strength = f.strength }

abbrev pub listed : FoundList → Listed
listed f = record { trees = map view f.items; depth = f.depth }

abbrev pub start_of : code.Start → Start
start_of starts.AtFirst = at_first
start_of (starts.BehindName x) = behind_name (lexeme x)
start_of (starts.BehindBracket x p) = behind_bracket (lexeme x) (lexeme p)

-- what a receiver stands for
abbrev pub receiver_of : code_receiver.Receiver → Receiver
receiver_of = receiver_view

abbrev pub bounds_of : limits.Bounds → Bounds
bounds_of b = record { low = parsed b.low; low_strict = b.low_strict; high = parsed b.high; high_strict = b.high_strict }

-- a rule over the parser of the expressions inside
abbrev pub rule : {A : Type 0} → (Bool → ℕ → ℕ → (ℕ → ℕ → Start → Parser Parsed) → ℕ → A) → Bool → ℕ → ℕ → A
rule p note room quantifiers = p note turns room (expr note turns room) quantifiers

pub record Nests (room : ℕ) (pre : Global → MutBor Cursor → ℕ → ℕ → ℕ → code.Start → Type 0)
    (post : Global → MutBor Cursor → ℕ → ℕ → ℕ → code.Start → Result Found ParseError → MutBor Cursor → Type 0) : Type 0 where
  pub callable : (alloc : Global) (old : MutBor Cursor) (quantifiers least : ℕ) (start : code.Start) → pre alloc old room quantifiers least start
  pub reads : (alloc : Global) (old new : MutBor Cursor) (quantifiers least : ℕ) (start : code.Start) (r : Result Found ParseError)
      → post alloc old room quantifiers least start r new
      → Reads parsed (expr old.now.note turns room quantifiers least (start_of start) (seen old.now)) r (seen new.now)
  pub kept : (alloc : Global) (old new : MutBor Cursor) (quantifiers least : ℕ) (start : code.Start) (r : Result Found ParseError)
      → post alloc old room quantifiers least start r new → IsKept old.now new.now
  pub bounded : (alloc : Global) (old new : MutBor Cursor) (quantifiers least : ℕ) (start : code.Start) (r : Result Found ParseError)
      → post alloc old room quantifiers least start r new → IfOk r (λ f. f.depth ≤ room)
