-- The characters and bytes of the lexical form.
use Rattle.std.specs.Prelude.{ℕ, encode_utf8, ◌==◌, ◌||◌, Bool, false, List, [], ◌∷◌, Option, Some, None}
use Rattle.std.specs.Char.{is_ascii_digit, is_ascii_alphabetic, is_ascii_alphanumeric}
use Rattle.unicode_ident.specs.Ident.{is_xid_start, is_xid_continue}

-- space, tab, form feed, carriage return, line feed
abbrev pub is_white : ℕ → Bool
is_white b = (b == 32) || (b == 9) || (b == 12) || (b == 13) || (b == 10)

abbrev pub is_line_feed : ℕ → Bool
is_line_feed b = b == 10

abbrev pub is_at_sign : ℕ → Bool
is_at_sign b = b == 64

abbrev pub is_underscore : ℕ → Bool
is_underscore b = b == 95

-- what a word may begin with
abbrev pub is_word_start : ℕ → Bool
is_word_start c = is_xid_start c || (c == 95) || (c == 36)

-- what a word may go on with
abbrev pub is_word_part : ℕ → Bool
is_word_part c = is_xid_continue c || (c == 36)

abbrev pub is_backslash : ℕ → Bool
is_backslash b = b == 92

-- what a backslash word has after its backslash
abbrev pub is_backslash_part : ℕ → Bool
is_backslash_part b = is_ascii_alphabetic b || (b == 95)

-- what a number may have between its digits
abbrev pub is_digit_part : ℕ → Bool
is_digit_part b = is_ascii_digit b || (b == 95)

-- what may end a number
abbrev pub is_suffix : ℕ → Bool
is_suffix b = (b == 76) || (b == 108)

-- a plus or a minus, with which each group of keys begins
abbrev pub is_key_mark : ℕ → Bool
is_key_mark c = (c == 43) || (c == 45)

abbrev pub first_of : List ℕ → Option ℕ
first_of [] = None
first_of (x ∷ xs) = Some x

-- the first of the list is there and passes the test
abbrev pub begins : (ℕ → Bool) → List ℕ → Bool
begins p [] = false
begins p (x ∷ xs) = p x

-- the bytes of a character; none where there is none
abbrev pub spelled : Option ℕ → List ℕ
spelled None = []
spelled (Some c) = encode_utf8 c

-- the same of ASCII alone
abbrev pub is_ascii_word_part : ℕ → Bool
is_ascii_word_part b = is_ascii_alphanumeric b || (b == 95) || (b == 36)
