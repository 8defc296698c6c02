-- Words that only contracts inside the crate use.
use Rattle.std.specs.Prelude.{◌≡◌, ◌≤◌, ◌<◌, ℕ, ◌+◌, Bool, List, [], ◌∷◌, ◌++◌, length, take, drop, Result, Ok, Err}
use Rattle.std.specs.Str.{IsCharBoundary}
use Rattle.jesc_lexer.specs.Lexed.{IsLexed, IsRefused, IsTold}
use Rattle.jesc_lexer.specs.Spans.{AreSpans}
use Rattle.jesc_lexer.specs.Texts.{AreTexts, IsTokenText}
use Rattle.jesc_lexer.specs.declared.file.LexError.{LexError}
use Rattle.jesc_lexer.specs.declared.file.LexError.TheVariants as errors
use Rattle.jesc_lexer.specs.declared.piece.Piece.{Piece}
use Rattle.jesc_lexer.specs.declared.piece.Piece.TheVariants.{Blank, Lexeme, Bad}
use Rattle.jesc_lexer.specs.declared.piece.Refusal.{Refusal}
use Rattle.jesc_lexer.specs.declared.piece.Stop.{Stop}
use Rattle.jesc_lexer.specs.declared.piece.Stop.TheVariants.{Refused, OutOfMemory}
use Rattle.jesc_lexer.specs.declared.token.Token.{Token}
use Rattle.jesc_lexer.specs.declared.token.Tokens.{Tokens}

-- ---- pieces

-- the token that a piece at the front of the rest is, if it is one, has a text of its kind
abbrev pub IsTextOf : Bool → List ℕ → Piece → Type 0
IsTextOf note rest (Blank n) = Unit {0}
IsTextOf note rest (Lexeme kind n) = IsTokenText note kind (take n rest)
IsTextOf note rest (Bad number character) = Unit {0}

-- these bytes stand in the text at an offset
pub record StandsAt (text : List ℕ) (at : ℕ) (bytes : List ℕ) : Type 0 where
  pub more : List ℕ
  pub spells : drop at text ≡ bytes ++ more

-- where the last of the tokens ends, and the offset where there is none
abbrev pub end_of : ℕ → List Token → ℕ
end_of from [] = from
end_of from (token ∷ tokens) = end_of token.span.to tokens

-- all tokens stand in the text before this offset, each with a text of its kind
pub record AreBefore (text : List ℕ) (at : ℕ) (tokens : List Token) : Type 0 where
  pub spans : AreSpans (length text) 0 tokens
  pub ended : end_of 0 tokens ≤ at
  pub texts : AreTexts text tokens

-- a piece of so many bytes, at least one, behind which a character begins or the text ends
pub record Ends (text : List ℕ) (n : ℕ) : Type 0 where
  pub some : 0 < n
  pub edge : IsCharBoundary text n

-- a piece ends so
abbrev pub IsStep : List ℕ → Piece → Type 0
IsStep text (Blank n) = Ends text n
IsStep text (Lexeme kind n) = Ends text n
IsStep text (Bad number character) = Unit {0}

-- ---- readings

-- What a step of a reading answers is what the reading goes on with, whatever comes next, unless memory ran out.
abbrev pub Continues : ((ℕ → List Token → Result (List Token) Refusal) → Result (List Token) Refusal) → Result ℕ Stop → List Token → Type 0
Continues reading (Ok n) tokens = (next : ℕ → List Token → Result (List Token) Refusal) → reading next ≡ next n tokens
Continues reading (Err (Refused refusal)) tokens = (next : ℕ → List Token → Result (List Token) Refusal) → reading next ≡ Err refusal
Continues reading (Err OutOfMemory) tokens = Unit {0}

-- A whole reading answers these tokens or this refusal, unless memory ran out.
abbrev pub Reads : Result (List Token) Refusal → Result (Unit {0}) Stop → List Token → Type 0
Reads reading (Ok done) tokens = reading ≡ Ok tokens
Reads reading (Err (Refused refusal)) tokens = reading ≡ Err refusal
Reads reading (Err OutOfMemory) tokens = Unit {0}

-- a token at this offset ends within the greatest file
abbrev pub fits_at : ℕ → Piece → Type 0
fits_at at (Blank n) = Unit {0}
fits_at at (Lexeme kind n) = at + n ≤ 1048576
fits_at at (Bad number character) = Unit {0}

-- a refusal stands at this offset or before it
abbrev pub StopsBy : {A : Type 0} → ℕ → Result A Stop → Type 0
StopsBy most (Ok done) = Unit {0}
StopsBy most (Err (Refused refusal)) = refusal.at ≤ most
StopsBy most (Err OutOfMemory) = Unit {0}

-- ---- a whole file

-- the error tells the refusal, unless memory ran out
abbrev pub IsError : ℕ → List ℕ → Refusal → LexError → Type 0
IsError file bytes refusal (errors.Refused number place word) = IsTold file bytes refusal number place word
IsError file bytes refusal errors.OutOfMemory = Unit {0}

-- the answer is the tokens of the file, or its refusal, or tells that memory ran out
abbrev pub Gives : ℕ → List ℕ → Result Tokens LexError → Type 0
Gives file bytes (Ok found) = (found.text ≡ bytes) × IsLexed file bytes found.list × AreSpans (length bytes) 0 found.list × AreTexts bytes found.list
Gives file bytes (Err (errors.Refused number place word)) = IsRefused file bytes number place word
Gives file bytes (Err errors.OutOfMemory) = Unit {0}
