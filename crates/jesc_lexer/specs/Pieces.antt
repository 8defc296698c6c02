-- What begins a text: white space, a comment, an annotation or a token.
use Rattle.std.specs.Prelude.{find, ℕ, ◌+◌, ◌-◌, ◌||◌, ◌&&◌, nat_eq, Bool, true, false, not, List, [], ◌∷◌, length, take, drop, codes, Option, Some, None, if◌then◌else◌}
use Rattle.std.specs.Option.{option_map}
use Rattle.std.specs.List.{prefix_len, suffix_len, starts_with, list_any}
use Rattle.std.specs.Str.{chars}
use Rattle.jesc_lexer.specs.Characters.{is_white, is_line_feed, is_at_sign, is_word_part, is_key_mark, begins}
use Rattle.jesc_lexer.specs.Lexemes.{token_at}
use Rattle.jesc_lexer.specs.declared.piece.Piece.{Piece}
use Rattle.jesc_lexer.specs.declared.piece.Piece.TheVariants.{Blank, Bad}
use Rattle.jesc_lexer.specs.declared.piece.Note.{Note}
use Rattle.jesc_lexer.specs.declared.piece.CodePiece.{CodePiece}
use Rattle.jesc_lexer.specs.declared.piece.CodePiece.TheVariants.{Plain, Annotation}

-- the bytes up to the line feed, or to the end of the text
abbrev pub line_len : List ℕ → ℕ
line_len bytes = prefix_len (λ b. not (is_line_feed b)) bytes

-- where the next `*/` begins
unfoldable pub closing : List ℕ → Option ℕ
closing [] = None
closing (b ∷ bytes) = if starts_with nat_eq (b ∷ bytes) (codes "*/") then Some 0 else option_map (λ k. k + 1) (closing bytes)

-- what a group of keys consists of
abbrev pub is_key_part : ℕ → Bool
is_key_part c = is_word_part c || is_key_mark c

-- it is there, and an at sign
abbrev pub is_at : Option ℕ → Bool
is_at None = false
is_at (Some c) = is_at_sign c

-- one or more groups, each a `+` or a `-` and then identifier characters, and then `@`
unfoldable pub is_conditional : List ℕ → Bool
is_conditional bytes = begins is_key_mark (chars bytes) && is_at (find (λ c. not (is_key_part c)) (chars bytes))

-- the white space that begins the text; in a block annotation, where a line begins in it, the at signs right after it too
unfoldable pub blank_len : Bool → List ℕ → ℕ
blank_len block bytes =
    let white = prefix_len is_white bytes in
    if block && list_any is_line_feed (take white bytes) then white + prefix_len is_at_sign (drop white bytes) else white

-- a comment that begins with `/*`, by the distance of the `*/` that ends it; it is refused where there is none
abbrev pub skip_comment : Option ℕ → Piece
skip_comment None = Bad 2 None
skip_comment (Some k) = Blank (k + 4)

-- what begins the inside of an annotation
abbrev pub note_piece : Bool → Bool → List ℕ → Piece
note_piece block arrow bytes =
    if begins is_white bytes then Blank (blank_len block bytes)
    else (if starts_with nat_eq bytes (codes "//") then Blank (line_len bytes)
    else (if starts_with nat_eq bytes (codes "/*") then (if block then Bad 3 (Some 47) else skip_comment (closing (drop 2 bytes)))
    else token_at true arrow bytes))

-- an annotation of which the bytes after `//` or `/*`, up to its end or its `*/`, are `body`, with the length of the whole.
-- Its inside lacks the at signs that begin the body, and in a block those that end it.
abbrev pub annotation : Bool → List ℕ → ℕ → Note
annotation block body whole =
    let lead = prefix_len is_at_sign body in
    record {
      block = block;
      from = 2 + lead;
      to = 2 + (if block then length body - suffix_len is_at_sign (drop lead body) else length body);
      length = whole;
    }

-- a comment in code with this body: an annotation where the body begins with an at sign
abbrev pub comment : Bool → List ℕ → ℕ → CodePiece
comment block body whole =
    if starts_with nat_eq body (codes "@") then Annotation (annotation block body whole)
    else Plain (Blank whole)

-- what `//` begins, with the bytes after it: a comment up to the line feed or to the end of the file, refused where it has keys
unfoldable pub line_comment : List ℕ → CodePiece
line_comment bytes =
    if is_conditional bytes then Plain (Bad 6 None)
    else comment false (take (line_len bytes) bytes) (2 + line_len bytes)

-- the comment that is closed at this place, refused where it is not closed or has keys
abbrev pub closed_comment : List ℕ → Option ℕ → CodePiece
closed_comment bytes None = Plain (Bad 2 None)
closed_comment bytes (Some k) = if is_conditional bytes then Plain (Bad 6 None) else comment true (take k bytes) (k + 4)

-- what `/*` begins, with the bytes after it: a comment up to the next `*/`
unfoldable pub block_comment : List ℕ → CodePiece
block_comment bytes = closed_comment bytes (closing bytes)

-- what begins the text in code
abbrev pub code_piece : List ℕ → CodePiece
code_piece bytes =
    if begins is_white bytes then Plain (Blank (prefix_len is_white bytes))
    else (if starts_with nat_eq bytes (codes "//") then line_comment (drop 2 bytes)
    else (if starts_with nat_eq bytes (codes "/*") then block_comment (drop 2 bytes)
    else Plain (token_at false false bytes)))
