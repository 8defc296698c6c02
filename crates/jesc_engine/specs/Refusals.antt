-- The refusals: their lines, and their causes.
--
-- The files come in order. Of each file its size is tested first, then the size of all up to it, then its lexical form
-- and then its syntax. Behind all this comes what is outside the first profile, again in the order of the files.
use Rattle.std.specs.Prelude.{◌≡◌, ◌≢◌, ℕ, ◌+◌, ◌<◌, ◌≤◌, List, [], ◌∷◌, ◌++◌, length, codes, Option, slice_get, nat_eq, if◌then◌else◌}
use Rattle.std.specs.Fmt.{decimal}
use Rattle.jesc_text.specs.declared.place.Place.{Place}
use Rattle.jesc_io.specs.Contents.{Store}
use Rattle.jesc_lexer.specs.declared.token.Tokens.{Tokens}
use Rattle.jesc_lexer.specs.Lexed as lexer
use Rattle.jesc_ast.specs.Lexemes.{lexemes}
use Rattle.jesc_ast.specs.Depth.{IsFileWithinLimits}
use Rattle.jesc_jml_parser.specs.declared.error.SyntaxError.{SyntaxError}
use Rattle.jesc_jml_parser.specs.declared.error.SyntaxError.TheVariants.{Token, LeftOut, Deep, OutOfMemory}
use Rattle.jesc_jml_parser.specs.Refusals.{place_of_next, text_of_next}
use Rattle.jesc_jml_parser.specs.ParsedTrees.{IsTreeRefusal}
use Rattle.jesc_ast.specs.Members.{SpellsUnit}
use Rattle.jesc_first.specs.declared.tree.Class.{Class}
use Rattle.jesc_first.specs.Accepted.{Accepted, names_of}
use Rattle.jesc_first.specs.Outside.{Strays}
use Rattle.jesc_engine.specs.Sources.{IsTooLarge, IsRead, HasTokens, total, AreSources, Precede}

-- ---- lines

-- FILE:LINE:COL: refused:
abbrev pub refused_at : List ℕ → Place → List ℕ
refused_at name place = name ++ codes ":" ++ decimal place.line ++ codes ":" ++ decimal place.col ++ codes ": refused: "

abbrev pub too_large_line : List ℕ → List ℕ
too_large_line name = name ++ codes ": refused: F1 file too large\n"

abbrev pub too_large_together_line : ℕ → List ℕ
too_large_together_line bytes = codes "refused: F2 files too large together: " ++ decimal bytes ++ codes "\n"

-- the number and the text of a lexical refusal; only a character outside the grammar is told as well
abbrev pub lexical_text : ℕ → List ℕ → List ℕ
lexical_text number word =
    if nat_eq number 1 then codes "L1 not UTF-8"
    else if nat_eq number 2 then codes "L2 comment not closed"
    else if nat_eq number 3 then codes "L3 character not in the grammar: " ++ word
    else if nat_eq number 4 then codes "L4 bad number"
    else if nat_eq number 5 then codes "L5 Unicode escape"
    else codes "L6 conditional annotation"

abbrev pub lexical_line : List ℕ → ℕ → Place → List ℕ → List ℕ
lexical_line name number place word = refused_at name place ++ lexical_text number word ++ codes "\n"

abbrev pub syntax_line : List ℕ → SyntaxError → List ℕ
syntax_line name (Token place text) = refused_at name place ++ codes "S1 unexpected token: " ++ text ++ codes "\n"
syntax_line name (LeftOut place word) = refused_at name place ++ codes "S2 left-out word: " ++ word ++ codes "\n"
syntax_line name (Deep place) = refused_at name place ++ codes "S3 nested too deeply\n"
syntax_line name OutOfMemory = []

-- the line for the token at this place, or for the end of the file
abbrev pub outside_line : List ℕ → Tokens → ℕ → List ℕ
outside_line name tokens at =
    let next = slice_get tokens.list at in
    refused_at name (place_of_next tokens next) ++ codes "P1 outside the first profile: " ++ text_of_next tokens next ++ codes "\n"

-- ---- causes; `earlier` are the tokens of the files before the one of this name

-- the files read so far, this one among them, have more than 8,388,608 bytes
pub record AreTooLarge (told : Option Store) (earlier : List Tokens) (name : List ℕ) (bytes : ℕ) : Type 0 where
  pub content : List ℕ
  pub read : IsRead told name content
  pub sum : bytes ≡ total earlier + length content
  pub large : 8388608 < bytes

-- the file, read and not too large with those before it, has no tokens
pub record IsLexicallyRefused (told : Option Store) (earlier : List Tokens) (name : List ℕ) (number : ℕ) (place : Place) (word : List ℕ) : Type 0 where
  pub content : List ℕ
  pub read : IsRead told name content
  pub small : total earlier + length content ≤ 8388608
  pub refused : lexer.IsRefused (length earlier) content number place word

-- its tokens spell no file of the grammar within the limits
pub record IsSyntacticallyRefused (told : Option Store) (earlier : List Tokens) (name : List ℕ) (error : SyntaxError) : Type 0 where
  pub tokens : Tokens
  pub has : HasTokens told (length earlier) name tokens
  pub small : total earlier + length tokens.text ≤ 8388608
  pub some : error ≢ OutOfMemory
  pub refused : IsTreeRefusal SpellsUnit IsFileWithinLimits tokens 0 error

-- the classes of these files, one after another
abbrev pub AreAccepted : List (List ℕ) → List Tokens → List Class → Type 0
AreAccepted before [] classes = classes ≡ []
AreAccepted before (tokens ∷ sources) classes =
    (first : List Class) × (more : List Class) × (classes ≡ first ++ more) × Accepted before (lexemes tokens) first
    × AreAccepted (before ++ names_of first) sources more

-- The files spell files of the grammar; those before the one of this name are accepted, and it leaves the first profile.
pub record IsOutside (told : Option Store) (names : List (List ℕ)) (name line : List ℕ) : Type 0 where
  pub earlier : List Tokens
  pub tokens : Tokens
  pub later : List Tokens
  pub before : List (List ℕ)
  pub after : List (List ℕ)
  pub parts : names ≡ before ++ name ∷ after
  pub place : length before ≡ length earlier
  pub sources : AreSources told names (earlier ++ tokens ∷ later)
  pub classes : List Class
  pub accepted : AreAccepted [] earlier classes
  pub at : ℕ
  pub strays : Strays (names_of classes) (lexemes tokens) at
  pub text : line ≡ outside_line name tokens at

-- the line of a refusal that stands at the file of this name, with its cause
pub data IsRefusedAt (told : Option Store) (names : List (List ℕ)) (name : List ℕ) : List ℕ → Type 0 where
  is_too_large : (earlier : List Tokens) → Precede told names earlier name → IsTooLarge told name → IsRefusedAt told names name (too_large_line name)
  are_too_large : (earlier : List Tokens) (bytes : ℕ) → Precede told names earlier name → AreTooLarge told earlier name bytes
      → IsRefusedAt told names name (too_large_together_line bytes)
  is_lexical : (earlier : List Tokens) (number : ℕ) (place : Place) (word : List ℕ) → Precede told names earlier name
      → IsLexicallyRefused told earlier name number place word → IsRefusedAt told names name (lexical_line name number place word)
  is_syntactic : (earlier : List Tokens) (error : SyntaxError) → Precede told names earlier name → IsSyntacticallyRefused told earlier name error
      → IsRefusedAt told names name (syntax_line name error)
  is_outside : (line : List ℕ) → IsOutside told names name line → IsRefusedAt told names name line

-- the line of a refusal, with its cause
abbrev pub IsRefusal : Option Store → List (List ℕ) → List ℕ → Type 0
IsRefusal told names line = (name : List ℕ) × IsRefusedAt told names name line
