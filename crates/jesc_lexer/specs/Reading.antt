-- A text is read piece by piece. Each reading answers all tokens up to its end, those before it included, or the first refusal.
use Rattle.std.specs.Prelude.{ℕ, ◌+◌, ◌-◌, ◌==◌, ◌&&◌, zero, suc, nat_eq, Bool, true, false, List, [], ◌∷◌, ◌++◌, length, take, drop, codes, Result, Ok, Err}
use Rattle.std.specs.List.{starts_with}
use Rattle.jesc_lexer.specs.Pieces.{note_piece, code_piece}
use Rattle.jesc_lexer.specs.declared.token.Token.{Token}
use Rattle.jesc_lexer.specs.declared.piece.Refusal.{Refusal}
use Rattle.jesc_lexer.specs.declared.token.TokenKind.{TokenKind}
use Rattle.jesc_lexer.specs.declared.token.TokenKind.TheVariants.{Word, Backslash, Number, Sign}
use Rattle.jesc_lexer.specs.declared.piece.Piece.{Piece}
use Rattle.jesc_lexer.specs.declared.piece.Piece.TheVariants.{Blank, Lexeme, Bad}
use Rattle.jesc_lexer.specs.declared.piece.CodePiece.{CodePiece}
use Rattle.jesc_lexer.specs.declared.piece.CodePiece.TheVariants.{Plain, Annotation}

-- the bytes of a token
abbrev pub token_text : List ℕ → Token → List ℕ
token_text text token = take (token.span.to - token.span.from) (drop token.span.from text)

abbrev pub is_word : TokenKind → Bool
is_word Word = true
is_word Backslash = false
is_word Number = false
is_word Sign = false

-- the bytes are the word `represents`
abbrev pub is_represents : List ℕ → Bool
is_represents bytes = starts_with nat_eq bytes (codes "represents") && (length bytes == 10)

-- of two tokens the first is the word `represents`, and the second a word
abbrev pub is_named : List ℕ → List Token → Bool
is_named text [] = false
is_named text (first ∷ []) = false
is_named text (first ∷ (second ∷ [])) = is_word second.kind && is_represents (token_text text first)
is_named text (first ∷ (second ∷ (third ∷ more))) = false

-- the last token is a word that stands directly after the word `represents`
unfoldable pub after_represents : List ℕ → List Token → Bool
after_represents text tokens = is_named text (drop (length tokens - 2) tokens)

abbrev pub token : ℕ → Bool → ℕ → TokenKind → ℕ → Token
token file note at kind n = record { kind = kind; span = record { file = file; from = at; to = at + n }; note = note }

-- how a reading goes on behind a piece at an offset: by `next`, from so many bytes on and with these tokens
abbrev pub behind : (ℕ → List Token → Result (List Token) Refusal) → ℕ → Bool → ℕ → List Token → Piece → Result (List Token) Refusal
behind next file note at tokens (Blank n) = next n tokens
behind next file note at tokens (Lexeme kind n) = next n (tokens ++ token file note at kind n ∷ [])
behind next file note at tokens (Bad number character) = Err (record { number = number; at = at; character = character })

-- The inside of an annotation, from an offset in the file on. The first `within` bytes belong to a piece that is read already.
unfoldable pub note_tokens : List ℕ → ℕ → Bool → List ℕ → ℕ → ℕ → List Token → Result (List Token) Refusal
note_tokens text file block [] within at tokens = Ok tokens
note_tokens text file block (b ∷ bytes) (suc within) at tokens = note_tokens text file block bytes within (at + 1) tokens
note_tokens text file block (b ∷ bytes) zero at tokens =
    behind (λ n more. note_tokens text file block bytes (n - 1) (at + 1) more) file true at tokens (note_piece block (after_represents text tokens) (b ∷ bytes))

-- a reading, and the one that goes on with its tokens
abbrev pub and_then : Result (List Token) Refusal → (List Token → Result (List Token) Refusal) → Result (List Token) Refusal
and_then (Ok tokens) next = next tokens
and_then (Err refusal) next = Err refusal

-- how the reading of code goes on behind a piece
abbrev pub behind_code : (ℕ → List Token → Result (List Token) Refusal) → List ℕ → ℕ → ℕ → List ℕ → List Token → CodePiece → Result (List Token) Refusal
behind_code next text file at bytes tokens (Plain piece) = behind next file false at tokens piece
behind_code next text file at bytes tokens (Annotation note) =
    and_then (note_tokens text file note.block (take (note.to - note.from) (drop note.from bytes)) 0 (at + note.from) tokens) (next note.length)

-- The code of a file from an offset on, with its annotations.
unfoldable pub code_tokens : List ℕ → ℕ → List ℕ → ℕ → ℕ → List Token → Result (List Token) Refusal
code_tokens text file [] within at tokens = Ok tokens
code_tokens text file (b ∷ bytes) (suc within) at tokens = code_tokens text file bytes within (at + 1) tokens
code_tokens text file (b ∷ bytes) zero at tokens =
    behind_code (λ n more. code_tokens text file bytes (n - 1) (at + 1) more) text file at (b ∷ bytes) tokens (code_piece (b ∷ bytes))
