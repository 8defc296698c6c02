-- What a piece of a text can be, and what is then known of the text.
use Rattle.std.proofs.Common.{◌≡◌, ℕ, ◌+◌, List, drop, take, refl, Bool, true, false, cond, nat_eq, nat_lt, codes, if◌then◌else◌, Option, Some, None}
use Rattle.std.specs.List.{prefix_len, starts_with}
use Rattle.std.specs.Char.{is_ascii_digit}
use Rattle.std.specs.Str.{chars}
use Rattle.jesc_lexer.specs.Characters.{is_white, is_word_start, begins, first_of}
use Rattle.jesc_lexer.specs.Lexemes.{word_len, number_len, number_at, is_bad_number, backslash_part_len, sign_len, sign_at, token_at}
use Rattle.jesc_lexer.specs.Pieces.{line_len, closing, blank_len, skip_comment, note_piece, annotation, comment, line_comment, closed_comment, block_comment, code_piece, is_conditional}
use Rattle.jesc_lexer.specs.declared.token.TokenKind.{TokenKind}
use Rattle.jesc_lexer.specs.declared.token.TokenKind.TheVariants.{Word, Backslash, Number, Sign}
use Rattle.jesc_lexer.specs.declared.piece.Piece.{Piece}
use Rattle.jesc_lexer.specs.declared.piece.Piece.TheVariants.{Blank, Lexeme, Bad}
use Rattle.jesc_lexer.specs.declared.piece.Note.{Note}
use Rattle.jesc_lexer.specs.declared.piece.CodePiece.{CodePiece}
use Rattle.jesc_lexer.specs.declared.piece.CodePiece.TheVariants.{Plain, Annotation}

-- a token, where no comment begins
pub record IsLexeme (note arrow : Bool) (bytes : List ℕ) (kind : TokenKind) (n : ℕ) : Type 0 where
  pub taken : token_at note arrow bytes ≡ Lexeme kind n
  pub no_line : starts_with nat_eq bytes (codes "//") ≡ false
  pub no_block : starts_with nat_eq bytes (codes "/*") ≡ false

abbrev IsNoBlank : Piece → Type 0
IsNoBlank (Blank n) = ⊥
IsNoBlank (Lexeme kind n) = Unit {0}
IsNoBlank (Bad number character) = Unit {0}

either_no_blank : (b : Bool) (x y : Piece) → IsNoBlank x → IsNoBlank y → IsNoBlank (cond b x y)
either_no_blank true x y first second = first
either_no_blank false x y first second = second

token_no_blank : (note arrow : Bool) (bytes : List ℕ) → IsNoBlank (token_at note arrow bytes)
token_no_blank note arrow bytes =
    either_no_blank (begins is_word_start (chars bytes)) (Lexeme Word (word_len bytes)) _ tt
    (either_no_blank (begins is_ascii_digit bytes) (number_at bytes) _ (either_no_blank (is_bad_number bytes) (Bad 4 None) (Lexeme Number (number_len bytes)) tt tt)
    (either_no_blank (nat_lt 0 (backslash_part_len bytes)) (Lexeme Backslash (1 + backslash_part_len bytes)) (sign_at (sign_len note arrow bytes) bytes) tt
    (either_no_blank (nat_lt 0 (sign_len note arrow bytes)) (Lexeme Sign (sign_len note arrow bytes)) (Bad 3 (first_of (chars bytes))) tt tt)))

-- ---- code

-- white space or a plain comment of so many bytes
pub data CodeSkip (bytes : List ℕ) : ℕ → Type 0 where
  is_white_run : begins is_white bytes ≡ true → CodeSkip bytes (prefix_len is_white bytes)
  is_line_comment : starts_with nat_eq bytes (codes "//") ≡ true → is_conditional (drop 2 bytes) ≡ false
      → starts_with nat_eq (take (line_len (drop 2 bytes)) (drop 2 bytes)) (codes "@") ≡ false → CodeSkip bytes (2 + line_len (drop 2 bytes))
  is_block_comment : (k : ℕ) → starts_with nat_eq bytes (codes "/*") ≡ true → closing (drop 2 bytes) ≡ Some k → is_conditional (drop 2 bytes) ≡ false
      → starts_with nat_eq (take k (drop 2 bytes)) (codes "@") ≡ false → CodeSkip bytes (k + 4)

pub data CodeNote (bytes : List ℕ) : Note → Type 0 where
  is_line_note : starts_with nat_eq bytes (codes "//") ≡ true
      → starts_with nat_eq (take (line_len (drop 2 bytes)) (drop 2 bytes)) (codes "@") ≡ true
      → CodeNote bytes (annotation false (take (line_len (drop 2 bytes)) (drop 2 bytes)) (2 + line_len (drop 2 bytes)))
  is_block_note : (k : ℕ) → starts_with nat_eq bytes (codes "/*") ≡ true → closing (drop 2 bytes) ≡ Some k
      → starts_with nat_eq (take k (drop 2 bytes)) (codes "@") ≡ true → CodeNote bytes (annotation true (take k (drop 2 bytes)) (k + 4))

abbrev pub IsCodeShape : List ℕ → CodePiece → Type 0
IsCodeShape bytes (Plain (Blank n)) = CodeSkip bytes n
IsCodeShape bytes (Plain (Lexeme kind n)) = IsLexeme false false bytes kind n
IsCodeShape bytes (Plain (Bad number character)) = Unit {0}
IsCodeShape bytes (Annotation note) = CodeNote bytes note

either_code : (bytes : List ℕ) (b : Bool) (x y : CodePiece) → (b ≡ true → IsCodeShape bytes x) → (b ≡ false → IsCodeShape bytes y) → IsCodeShape bytes (cond b x y)
either_code bytes true x y first second = first refl
either_code bytes false x y first second = second refl

token_shape : (bytes : List ℕ) (piece : Piece) → token_at false false bytes ≡ piece → IsNoBlank piece → starts_with nat_eq bytes (codes "//") ≡ false
    → starts_with nat_eq bytes (codes "/*") ≡ false → IsCodeShape bytes (Plain piece)
token_shape bytes (Blank n) is none no_line no_block = absurd none
token_shape bytes (Lexeme kind n) is none no_line no_block = record { taken = is; no_line = no_line; no_block = no_block }
token_shape bytes (Bad number character) is none no_line no_block = tt

line_shape : (bytes : List ℕ) → starts_with nat_eq bytes (codes "//") ≡ true → IsCodeShape bytes (line_comment (drop 2 bytes))
unfolding line_comment
line_shape bytes fit =
    let rest = drop 2 bytes in
    let body = take (line_len rest) rest in
    either_code bytes (is_conditional rest) (Plain (Bad 6 None)) (comment false body (2 + line_len rest)) (λ _. tt)
    (λ plain. either_code bytes (starts_with nat_eq body (codes "@")) (Annotation (annotation false body (2 + line_len rest))) (Plain (Blank (2 + line_len rest)))
    (λ marked. is_line_note fit marked) (λ unmarked. is_line_comment fit plain unmarked))

block_shape : (bytes : List ℕ) → starts_with nat_eq bytes (codes "/*") ≡ true → IsCodeShape bytes (block_comment (drop 2 bytes))
unfolding block_comment
block_shape bytes fit = closed (closing (drop 2 bytes)) refl
  where
    closed : (place : Option ℕ) → closing (drop 2 bytes) ≡ place → IsCodeShape bytes (closed_comment (drop 2 bytes) place)
    closed None is = tt
    closed (Some k) is =
        let body = take k (drop 2 bytes) in
        either_code bytes (is_conditional (drop 2 bytes)) (Plain (Bad 6 None)) (comment true body (k + 4)) (λ _. tt)
        (λ plain. either_code bytes (starts_with nat_eq body (codes "@")) (Annotation (annotation true body (k + 4))) (Plain (Blank (k + 4)))
        (λ marked. is_block_note k fit is marked) (λ unmarked. is_block_comment k fit is plain unmarked))

pub code_shape : (bytes : List ℕ) → IsCodeShape bytes (code_piece bytes)
code_shape bytes =
    either_code bytes (begins is_white bytes) (Plain (Blank (prefix_len is_white bytes))) _ (λ white. is_white_run white)
    (λ _. either_code bytes (starts_with nat_eq bytes (codes "//")) (line_comment (drop 2 bytes)) _ (λ fit. line_shape bytes fit)
    (λ no_line. either_code bytes (starts_with nat_eq bytes (codes "/*")) (block_comment (drop 2 bytes)) (Plain (token_at false false bytes)) (λ fit. block_shape bytes fit)
    (λ no_block. token_shape bytes (token_at false false bytes) refl (token_no_blank false false bytes) no_line no_block)))

-- ---- the inside of an annotation

pub data NoteSkip (block : Bool) (bytes : List ℕ) : ℕ → Type 0 where
  is_note_white : begins is_white bytes ≡ true → NoteSkip block bytes (blank_len block bytes)
  is_note_line : starts_with nat_eq bytes (codes "//") ≡ true → NoteSkip block bytes (line_len bytes)
  is_note_block : (k : ℕ) → starts_with nat_eq bytes (codes "/*") ≡ true → block ≡ false → closing (drop 2 bytes) ≡ Some k → NoteSkip block bytes (k + 4)

abbrev pub IsNoteShape : Bool → Bool → List ℕ → Piece → Type 0
IsNoteShape block arrow bytes (Blank n) = NoteSkip block bytes n
IsNoteShape block arrow bytes (Lexeme kind n) = IsLexeme true arrow bytes kind n
IsNoteShape block arrow bytes (Bad number character) = Unit {0}

either_note : (block arrow : Bool) (bytes : List ℕ) (b : Bool) (x y : Piece) → (b ≡ true → IsNoteShape block arrow bytes x) → (b ≡ false → IsNoteShape block arrow bytes y)
    → IsNoteShape block arrow bytes (cond b x y)
either_note block arrow bytes true x y first second = first refl
either_note block arrow bytes false x y first second = second refl

note_token_shape : (block arrow : Bool) (bytes : List ℕ) (piece : Piece) → token_at true arrow bytes ≡ piece → IsNoBlank piece → starts_with nat_eq bytes (codes "//") ≡ false
    → starts_with nat_eq bytes (codes "/*") ≡ false → IsNoteShape block arrow bytes piece
note_token_shape block arrow bytes (Blank n) is none no_line no_block = absurd none
note_token_shape block arrow bytes (Lexeme kind n) is none no_line no_block = record { taken = is; no_line = no_line; no_block = no_block }
note_token_shape block arrow bytes (Bad number character) is none no_line no_block = tt

pub note_shape : (block arrow : Bool) (bytes : List ℕ) → IsNoteShape block arrow bytes (note_piece block arrow bytes)
note_shape block arrow bytes =
    either_note block arrow bytes (begins is_white bytes) (Blank (blank_len block bytes)) _ (λ white. is_note_white white)
    (λ _. either_note block arrow bytes (starts_with nat_eq bytes (codes "//")) (Blank (line_len bytes)) _ (λ fit. is_note_line fit)
    (λ no_line. either_note block arrow bytes (starts_with nat_eq bytes (codes "/*")) (if block then Bad 3 (Some 47) else skip_comment (closing (drop 2 bytes))) (token_at true arrow bytes)
    (λ fit. either_note block arrow bytes block (Bad 3 (Some 47)) (skip_comment (closing (drop 2 bytes))) (λ _. tt) (λ line. closed (closing (drop 2 bytes)) refl fit line))
    (λ no_block. note_token_shape block arrow bytes (token_at true arrow bytes) refl (token_no_blank true arrow bytes) no_line no_block)))
  where
    closed : (place : Option ℕ) → closing (drop 2 bytes) ≡ place → starts_with nat_eq bytes (codes "/*") ≡ true → block ≡ false → IsNoteShape block arrow bytes (skip_comment place)
    closed None is fit line = tt
    closed (Some k) is fit line = is_note_block k fit line is
