-- The texts of tokens: which one begins a text, and how long it is.
use Rattle.std.specs.Prelude.{None, ℕ, ◌+◌, ◌-◌, ◌||◌, nat_lt, nat_eq, Bool, List, [], ◌∷◌, ◌++◌, length, take, drop, filter, codes, encode_utf8_all, if◌then◌else◌}
use Rattle.std.specs.List.{prefix_len, suffix_len, take_while, starts_with, list_any}
use Rattle.std.specs.Char.{is_ascii_digit}
use Rattle.std.specs.Str.{chars}
use Rattle.std.specs.Str.Parse.{digits_value}
use Rattle.unicode_ident.specs.Ident.{is_xid_continue}
use Rattle.jesc_lexer.specs.Characters.{is_underscore, is_word_start, is_word_part, is_backslash, is_backslash_part, is_digit_part, is_suffix, begins, first_of}
use Rattle.jesc_lexer.specs.declared.token.TokenKind.TheVariants.{Word, Backslash, Number, Sign}
use Rattle.jesc_lexer.specs.declared.piece.Piece.{Piece}
use Rattle.jesc_lexer.specs.declared.piece.Piece.TheVariants.{Lexeme, Bad}

-- the bytes of the word that begins the text: of all characters that go on with a word
unfoldable pub word_len : List ℕ → ℕ
word_len bytes = length (encode_utf8_all (take_while is_word_part (chars bytes)))

-- the letters and underscores after the backslash that begins the text, 0 where none does
abbrev pub backslash_part_len : List ℕ → ℕ
backslash_part_len bytes = if begins is_backslash bytes then prefix_len is_backslash_part (drop 1 bytes) else 0

-- the digits that begin the text: `0` alone, else digits and underscores up to the last digit among them
unfoldable pub digits_len : List ℕ → ℕ
digits_len bytes =
    if starts_with nat_eq bytes (codes "0") then 1
    else (let run = prefix_len is_digit_part bytes in run - suffix_len is_underscore (take run bytes))

-- an `L` or an `l` right after the digits
abbrev pub has_suffix : List ℕ → Bool
has_suffix bytes = begins is_suffix (drop (digits_len bytes) bytes)

abbrev pub number_len : List ℕ → ℕ
number_len bytes = if has_suffix bytes then digits_len bytes + 1 else digits_len bytes

-- the value of the digits among these bytes
abbrev pub digits_value_of : List ℕ → ℕ
digits_value_of bytes = digits_value 10 (filter is_ascii_digit bytes)

-- the greatest value, which only a unary minus makes fit
abbrev pub number_limit : List ℕ → ℕ
number_limit bytes = if has_suffix bytes then 9223372036854775808 else 2147483648

-- a letter, a digit or an underscore follows directly, or the value is beyond its bound
abbrev pub is_bad_number : List ℕ → Bool
is_bad_number bytes = begins is_xid_continue (chars (drop (number_len bytes) bytes)) || nat_lt (number_limit bytes) (digits_value_of (take (digits_len bytes) bytes))

-- the signs of annotations alone, without `<-`
abbrev pub note_signs : List (List ℕ)
note_signs = codes "<=!=>" ∷ codes "<==>" ∷ codes "==>" ∷ codes ".." ∷ []

-- the signs of two bytes, in code and annotations
abbrev pub double_signs : List (List ℕ)
double_signs =
    codes "==" ∷ codes "!=" ∷ codes "<=" ∷ codes ">=" ∷ codes "&&" ∷ codes "||" ∷ codes "++" ∷ codes "--"
    ∷ codes "+=" ∷ codes "-=" ∷ codes "*=" ∷ codes "/=" ∷ codes "%=" ∷ []

-- the signs of one byte
abbrev pub single_signs : List (List ℕ)
single_signs =
    codes "+" ∷ codes "-" ∷ codes "*" ∷ codes "/" ∷ codes "%" ∷ codes "<" ∷ codes ">" ∷ codes "!" ∷ codes "=" ∷ codes "?" ∷ codes ":"
    ∷ codes "(" ∷ codes ")" ∷ codes "{" ∷ codes "}" ∷ codes "[" ∷ codes "]" ∷ codes ";" ∷ codes "," ∷ codes "." ∷ codes "@" ∷ []

-- the length of the first text of the list that begins the bytes, 0 where none does
abbrev pub first_fit : List (List ℕ) → List ℕ → ℕ
first_fit [] bytes = 0
first_fit (text ∷ texts) bytes = if starts_with nat_eq bytes text then length text else first_fit texts bytes

-- the signs of code or of annotations, the longer ones first; `arrow` tells whether `<-` is one
abbrev pub signs_of : Bool → Bool → List (List ℕ)
signs_of note arrow = (if note then note_signs else []) ++ ((if arrow then codes "<-" ∷ [] else []) ++ (double_signs ++ single_signs))

-- the longest sign that begins the text, 0 where none does; `arrow` tells whether `<-` is one here
unfoldable pub sign_len : Bool → Bool → List ℕ → ℕ
sign_len note arrow bytes = first_fit (signs_of note arrow) bytes

-- one of the texts begins the bytes
abbrev pub any_fit : List (List ℕ) → List ℕ → Bool
any_fit texts bytes = list_any (λ text. starts_with nat_eq bytes text) texts

-- the sign that begins the text; any other character is refused
abbrev pub sign_at : ℕ → List ℕ → Piece
sign_at n bytes = if nat_lt 0 n then Lexeme Sign n else Bad 3 (first_of (chars bytes))

-- the number that begins the text
abbrev pub number_at : List ℕ → Piece
number_at bytes = if is_bad_number bytes then Bad 4 None else Lexeme Number (number_len bytes)

-- the token that begins the text
abbrev pub token_at : Bool → Bool → List ℕ → Piece
token_at note arrow bytes =
    if begins is_word_start (chars bytes) then Lexeme Word (word_len bytes)
    else (if begins is_ascii_digit bytes then number_at bytes
    else (if nat_lt 0 (backslash_part_len bytes) then Lexeme Backslash (1 + backslash_part_len bytes)
    else sign_at (sign_len note arrow bytes) bytes))
