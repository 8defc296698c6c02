-- What stops the reading of the files, as the program keeps it: its status, its line, and what is so of the files.
use Rattle.std.specs.Prelude.{◌≡◌, ◌≢◌, ℕ, ◌≤◌, List, [], ◌++◌, codes, Option, slice_get}
use Rattle.jesc_io.specs.Contents.{Store}
use Rattle.jesc_io.specs.Faults.{Rose}
use Rattle.jesc_io.specs.declared.whole.ReadError.{ReadError}
use Rattle.jesc_io.specs.declared.whole.ReadError.TheVariants as reads
use Rattle.jesc_lexer.specs.declared.token.Token.{Token}
use Rattle.jesc_lexer.specs.declared.token.Tokens.{Tokens}
use Rattle.jesc_lexer.specs.declared.file.LexError.{LexError}
use Rattle.jesc_lexer.specs.declared.file.LexError.TheVariants as lexing
use Rattle.jesc_ast.specs.Lexemes.{lexemes}
use Rattle.jesc_ast.specs.FileTrees.{SourceUnit}
use Rattle.jesc_ast.specs.Depth.{IsFileWithinLimits}
use Rattle.jesc_jml_parser.specs.declared.error.SyntaxError.{SyntaxError}
use Rattle.jesc_jml_parser.specs.declared.error.SyntaxError.TheVariants as parsing
use Rattle.jesc_jml_parser.specs.Refusals.{place_of_next, text_of_next}
use Rattle.jesc_jml_parser.specs.ParsedTrees.{IsTreeRefusal}
use Rattle.jesc_ast.specs.Members.{SpellsUnit}
use Rattle.jesc_first.specs.Outside.{Strays}
use Rattle.jesc_engine.specs.declared.stop.Cause.{Cause}
use Rattle.jesc_engine.specs.declared.stop.Cause.TheVariants.{CannotRead, TooLarge, TooLargeTogether, Lexical, Syntax, Outside, OutOfMemory}
use Rattle.jesc_engine.specs.declared.stop.Stop.{Stop}
use Rattle.jesc_engine.specs.declared.top.Status.TheVariants.{Refused, ReadFault}
use Rattle.jesc_engine.specs.Sources.{IsTooLarge}
use Rattle.jesc_engine.specs.Refusals.{refused_at, too_large_line, too_large_together_line, lexical_line, syntax_line, AreTooLarge, IsLexicallyRefused, IsSyntacticallyRefused}
use Rattle.jesc_engine.specs.Ends.{cannot_read_line, IsComplaint}

abbrev pub cause_of_read : ReadError → Cause
cause_of_read reads.Failed = CannotRead
cause_of_read reads.TooLarge = TooLarge
cause_of_read reads.OutOfMemory = OutOfMemory

abbrev pub cause_of_lexing : LexError → Cause
cause_of_lexing (lexing.Refused number place word) = Lexical number place word
cause_of_lexing lexing.OutOfMemory = OutOfMemory

abbrev pub cause_of_parsing : SyntaxError → Cause
cause_of_parsing (parsing.Token place text) = Syntax (parsing.Token place text)
cause_of_parsing (parsing.LeftOut place word) = Syntax (parsing.LeftOut place word)
cause_of_parsing (parsing.Deep place) = Syntax (parsing.Deep place)
cause_of_parsing parsing.OutOfMemory = OutOfMemory

-- the line of the file of this name; want of memory has none
abbrev pub cause_line : List ℕ → Cause → List ℕ
cause_line name CannotRead = cannot_read_line name
cause_line name TooLarge = too_large_line name
cause_line name (TooLargeTogether bytes) = too_large_together_line bytes
cause_line name (Lexical number place word) = lexical_line name number place word
cause_line name (Syntax error) = syntax_line name error
cause_line name (Outside place text) = refused_at name place ++ codes "P1 outside the first profile: " ++ text ++ codes "\n"
cause_line name OutOfMemory = []

abbrev pub stop_line : Stop → List ℕ
stop_line stop = cause_line stop.name.now stop.cause

-- the tokens spell a file of the grammar, within its limits
pub record IsUnit (tokens : Tokens) : Type 0 where
  pub unit : SourceUnit
  pub spelled : SpellsUnit unit (lexemes tokens)
  pub fits : IsFileWithinLimits unit

-- what parsing these tokens may answer in place of them
abbrev pub IsParsing : Tokens → Cause → Type 0
IsParsing tokens CannotRead = ⊥
IsParsing tokens TooLarge = ⊥
IsParsing tokens (TooLargeTogether bytes) = ⊥
IsParsing tokens (Lexical number place word) = ⊥
IsParsing tokens (Syntax error) = (error ≢ parsing.OutOfMemory) × IsTreeRefusal SpellsUnit IsFileWithinLimits tokens 0 error
IsParsing tokens (Outside place text) = ⊥
IsParsing tokens OutOfMemory = Unit {0}

-- a token of a text of this size
pub record LiesWithin (size : ℕ) (token : Token) : Type 0 where
  pub rising : token.span.from ≤ token.span.to
  pub within : token.span.to ≤ size

-- the cause tells the token at this place, or the end of the file, unless memory ran out
abbrev pub IsOutsideAt : Tokens → ℕ → Cause → Type 0
IsOutsideAt tokens at CannotRead = ⊥
IsOutsideAt tokens at TooLarge = ⊥
IsOutsideAt tokens at (TooLargeTogether bytes) = ⊥
IsOutsideAt tokens at (Lexical number place word) = ⊥
IsOutsideAt tokens at (Syntax error) = ⊥
IsOutsideAt tokens at (Outside place text) =
    (place ≡ place_of_next tokens (slice_get tokens.list at)) × (text ≡ text_of_next tokens (slice_get tokens.list at))
IsOutsideAt tokens at OutOfMemory = Unit {0}

-- the cause tells where the tokens stray from the first profile, unless memory ran out
abbrev pub IsStray : List (List ℕ) → Tokens → Cause → Type 0
IsStray before tokens cause = (at : ℕ) × (cause ≢ OutOfMemory → Strays before (lexemes tokens) at) × IsOutsideAt tokens at cause

-- what holds of a file that stops the reading behind the earlier files
abbrev pub IsCause : Option Store → List Tokens → List ℕ → ℕ → ℕ → Cause → Type 0
IsCause told earlier name reads reads' CannotRead = Rose reads reads'
IsCause told earlier name reads reads' TooLarge = IsTooLarge told name
IsCause told earlier name reads reads' (TooLargeTogether bytes) = AreTooLarge told earlier name bytes
IsCause told earlier name reads reads' (Lexical number place word) = IsLexicallyRefused told earlier name number place word
IsCause told earlier name reads reads' (Syntax error) = IsSyntacticallyRefused told earlier name error
IsCause told earlier name reads reads' (Outside place text) = ⊥
IsCause told earlier name reads reads' OutOfMemory = Unit {0}

-- the line of a cause is a complaint on the files of these names; want of memory is free
abbrev pub IsComplaintOf : Option Store → List (List ℕ) → ℕ → ℕ → List ℕ → Cause → Type 0
IsComplaintOf told names reads reads' name CannotRead = IsComplaint told names reads reads' ReadFault (cause_line name CannotRead)
IsComplaintOf told names reads reads' name TooLarge = IsComplaint told names reads reads' Refused (cause_line name TooLarge)
IsComplaintOf told names reads reads' name (TooLargeTogether bytes) = IsComplaint told names reads reads' Refused (cause_line name (TooLargeTogether bytes))
IsComplaintOf told names reads reads' name (Lexical number place word) = IsComplaint told names reads reads' Refused (cause_line name (Lexical number place word))
IsComplaintOf told names reads reads' name (Syntax error) = IsComplaint told names reads reads' Refused (cause_line name (Syntax error))
IsComplaintOf told names reads reads' name (Outside place text) = IsComplaint told names reads reads' Refused (cause_line name (Outside place text))
IsComplaintOf told names reads reads' name OutOfMemory = Unit {0}

abbrev pub IsStop : Option Store → List (List ℕ) → ℕ → ℕ → Stop → Type 0
IsStop told names reads reads' stop = IsComplaintOf told names reads reads' stop.name.now stop.cause
