-- What the reading of a whole file gives.
use Rattle.std.specs.Prelude.{◌≡◌, ℕ, ◌+◌, ◌<◌, ◌%◌, List, [], take, slice_index, Result, Ok, Err, ◌⊎◌, None}
use Rattle.std.specs.List.{suffix_len}
use Rattle.std.specs.Str.{IsUtf8, IsValidUpTo}
use Rattle.jesc_text.specs.Places.{line_at, column_at}
use Rattle.jesc_text.specs.declared.place.Place.{Place}
use Rattle.jesc_lexer.specs.Characters.{is_backslash, spelled}
use Rattle.jesc_lexer.specs.Reading.{code_tokens}
use Rattle.jesc_lexer.specs.declared.piece.Refusal.{Refusal}
use Rattle.jesc_lexer.specs.declared.token.Token.{Token}
use Rattle.jesc_lexer.specs.declared.token.Tokens.{Tokens}
use Rattle.jesc_lexer.specs.declared.file.LexError.{LexError}
use Rattle.jesc_lexer.specs.declared.file.LexError.TheVariants.{Refused, OutOfMemory}

-- a backslash with an even number of backslashes directly before it, and a `u` behind it
pub record IsEscape (bytes : List ℕ) (i : ℕ) : Type 0 where
  pub backslash : slice_index bytes i ≡ 92
  pub letter : slice_index bytes (i + 1) ≡ 117
  pub even : suffix_len is_backslash (take i bytes) % 2 ≡ 0

-- the tokens of a file, or its refusal
abbrev pub Outcome : Type 0
Outcome = Result (List Token) Refusal

abbrev pub HasNoEscape : List ℕ → Type 0
HasNoEscape bytes = (i : ℕ) → ¬ (IsEscape bytes i)

-- the first byte with which the bytes stop to be a text
pub record IsNoText (bytes : List ℕ) (refusal : Refusal) : Type 0 where
  pub number : refusal.number ≡ 1
  pub character : refusal.character ≡ None
  pub at : IsValidUpTo bytes refusal.at

-- the first escape of a text
pub record HasEscape (bytes : List ℕ) (refusal : Refusal) : Type 0 where
  pub number : refusal.number ≡ 5
  pub character : refusal.character ≡ None
  pub utf8 : IsUtf8 bytes
  pub at : IsEscape bytes refusal.at
  pub first : (i : ℕ) → i < refusal.at → ¬ (IsEscape bytes i)

-- what reading the code of a text without escapes gives
pub record IsRead (file : ℕ) (bytes : List ℕ) (outcome : Outcome) : Type 0 where
  pub utf8 : IsUtf8 bytes
  pub plain : HasNoEscape bytes
  pub reads : code_tokens bytes file bytes 0 0 [] ≡ outcome

-- What a file gives. Bytes that are no text come before an escape, and an escape before all other refusals.
abbrev pub Lexed : ℕ → List ℕ → Outcome → Type 0
Lexed file bytes (Ok tokens) = IsRead file bytes (Ok tokens)
Lexed file bytes (Err refusal) = IsNoText bytes refusal ⊎ (HasEscape bytes refusal ⊎ IsRead file bytes (Err refusal))

-- these are the tokens of the file
abbrev pub IsLexed : ℕ → List ℕ → List Token → Type 0
IsLexed file bytes tokens = Lexed file bytes (Ok tokens)

-- the number, the place and the word of a refusal: of a character outside the grammar the character
pub record IsTold (file : ℕ) (bytes : List ℕ) (refusal : Refusal) (number : ℕ) (place : Place) (word : List ℕ) : Type 0 where
  pub numbered : number ≡ refusal.number
  pub placed : place ≡ record { file = file; line = line_at bytes refusal.at; col = column_at bytes refusal.at }
  pub carries : word ≡ spelled refusal.character

-- the file is refused so
abbrev pub IsRefused : ℕ → List ℕ → ℕ → Place → List ℕ → Type 0
IsRefused file bytes number place word = (refusal : Refusal) × Lexed file bytes (Err refusal) × IsTold file bytes refusal number place word

-- what lex answers is what the file gives, unless memory ran out
abbrev pub Answers : ℕ → List ℕ → Outcome → Result Tokens LexError → Type 0
Answers file bytes (Ok tokens) (Ok found) = found.list ≡ tokens
Answers file bytes (Err refusal) (Ok found) = ⊥
Answers file bytes (Ok tokens) (Err (Refused number place word)) = ⊥
Answers file bytes (Err refusal) (Err (Refused number place word)) = IsTold file bytes refusal number place word
Answers file bytes outcome (Err OutOfMemory) = Unit {0}
