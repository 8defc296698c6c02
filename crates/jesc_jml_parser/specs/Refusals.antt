-- What a syntax error tells of the token that it stands at.
use Rattle.std.specs.Prelude.{◌≡◌, ℕ, ◌-◌, ◌≤◌, Bool, true, false, ◌⊎◌, IsTrue, Option, Some, None, List, [], ◌∷◌, codes, length, slice_get, slice_range}
use Rattle.jesc_text.specs.Places.{line_at, column_at}
use Rattle.jesc_text.specs.declared.place.Place.{Place}
use Rattle.jesc_lexer.specs.declared.token.Token.{Token}
use Rattle.jesc_lexer.specs.declared.token.Tokens.{Tokens}
use Rattle.jesc_ast.specs.Lexemes.{lexeme_of}
use Rattle.jesc_ast.specs.LeftOut.{is_left_out}
use Rattle.jesc_ast.specs.Words.{is_one_of}
use Rattle.jesc_jml_parser.specs.declared.error.SyntaxError.{SyntaxError}
use Rattle.jesc_jml_parser.specs.declared.error.SyntaxError.TheVariants.{Token as UnexpectedToken, LeftOut, Deep, OutOfMemory}

abbrev pub file_of_token : Option Token → ℕ
file_of_token None = 0
file_of_token (Some t) = t.span.file

-- the file of the last token, and 0 where there is none
abbrev pub file_of : List Token → ℕ
file_of ts = file_of_token (slice_get ts (length ts - 1))

abbrev pub placed : List ℕ → ℕ → ℕ → Place
placed text file offset = record { file = file; line = line_at text offset; col = column_at text offset }

-- the place and the text of this token, or of the end of the file
abbrev pub place_of_next : Tokens → Option Token → Place
place_of_next tokens None = placed tokens.text (file_of tokens.list) (length tokens.text)
place_of_next tokens (Some t) = placed tokens.text t.span.file t.span.from

abbrev pub text_of_next : Tokens → Option Token → List ℕ
text_of_next tokens None = codes "end of file"
text_of_next tokens (Some t) = slice_range tokens.text t.span.from t.span.to

abbrev pub is_left_out_next : Tokens → Option Token → Bool
is_left_out_next tokens None = false
is_left_out_next tokens (Some t) = is_left_out (lexeme_of tokens.text t)

-- `\forall` or `\exists`
abbrev pub is_quantifier_next : Tokens → Option Token → Bool
is_quantifier_next tokens None = false
is_quantifier_next tokens (Some t) = is_one_of (codes "\\forall" ∷ codes "\\exists" ∷ []) (slice_range tokens.text t.span.from t.span.to)

-- the place is that of the token at this index, where the tokens from `from` on have such a fault
pub record IsFault (such : ℕ → Type 0) (tokens : Tokens) (from : ℕ) (place : Place) (at : ℕ) : Type 0 where
  pub later : from ≤ at
  pub stands : such at
  pub placed : place ≡ place_of_next tokens (slice_get tokens.list at)

-- The tokens from `from` on are refused so, unless memory ran out: no tree goes on with the token, or none within the
-- limits does. What is too deep has 150 tokens at least before it, counted from `from`, or is a quantifier's word.
abbrev pub IsRefusal : (refused stuck : ℕ → Type 0) → Tokens → ℕ → SyntaxError → Type 0
IsRefusal refused stuck tokens from (UnexpectedToken place text) =
    (at : ℕ) × IsFault refused tokens from place at × (text ≡ text_of_next tokens (slice_get tokens.list at))
    × (is_left_out_next tokens (slice_get tokens.list at) ≡ false)
IsRefusal refused stuck tokens from (LeftOut place word) =
    (at : ℕ) × IsFault refused tokens from place at × (word ≡ text_of_next tokens (slice_get tokens.list at))
    × (is_left_out_next tokens (slice_get tokens.list at) ≡ true)
IsRefusal refused stuck tokens from (Deep place) =
    (at : ℕ) × IsFault stuck tokens from place at × ((150 ≤ at - from) ⊎ IsTrue (is_quantifier_next tokens (slice_get tokens.list at)))
IsRefusal refused stuck tokens from OutOfMemory = Unit {0}
