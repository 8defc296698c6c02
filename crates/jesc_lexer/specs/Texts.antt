-- Which texts are tokens, of each kind.
use Rattle.std.specs.Prelude.{◌≡◌, ◌≤◌, ◌<◌, ℕ, ◌-◌, Bool, true, false, List, [], ◌∷◌, ◌++◌, length, codes, nat_eq, slice_index, encode_utf8_all, ◌⊎◌}
use Rattle.std.specs.List.{list_all, starts_with, AllByRecursion}
use Rattle.std.specs.Char.{is_ascii_digit}
use Rattle.jesc_lexer.specs.Characters.{is_word_start, is_word_part, is_backslash_part, is_digit_part, is_underscore, is_suffix, begins}
use Rattle.jesc_lexer.specs.Lexemes.{digits_value_of, signs_of}
use Rattle.jesc_lexer.specs.Reading.{token_text}
use Rattle.jesc_lexer.specs.declared.token.Token.{Token}
use Rattle.jesc_lexer.specs.declared.token.TokenKind.{TokenKind}
use Rattle.jesc_lexer.specs.declared.token.TokenKind.TheVariants.{Word, Backslash, Number, Sign}

-- characters of a word, of which the first may begin one
pub record IsWordText (text : List ℕ) : Type 0 where
  pub characters : List ℕ
  pub spells : encode_utf8_all characters ≡ text
  pub starts : begins is_word_start characters ≡ true
  pub goes : list_all is_word_part characters ≡ true

-- a backslash and one or more letters or underscores
pub record IsBackslashText (text : List ℕ) : Type 0 where
  pub letters : List ℕ
  pub spells : text ≡ 92 ∷ letters
  pub some : 0 < length letters
  pub goes : list_all is_backslash_part letters ≡ true

-- digits and underscores, from a digit other than 0 to a digit
pub record AreLongDigits (digits : List ℕ) : Type 0 where
  pub starts : begins is_ascii_digit digits ≡ true
  pub positive : starts_with nat_eq digits (codes "0") ≡ false
  pub goes : list_all is_digit_part digits ≡ true
  pub ends : is_underscore (slice_index digits (length digits - 1)) ≡ false

abbrev pub AreDigits : List ℕ → Type 0
AreDigits digits = (digits ≡ codes "0") ⊎ AreLongDigits digits

-- no suffix or one, and a value within the bound
abbrev pub IsBounded : List ℕ → List ℕ → Type 0
IsBounded digits [] = digits_value_of digits ≤ 2147483648
IsBounded digits (suffix ∷ []) = (is_suffix suffix ≡ true) × (digits_value_of digits ≤ 9223372036854775808)
IsBounded digits (suffix ∷ (other ∷ more)) = ⊥

pub record IsNumberText (text : List ℕ) : Type 0 where
  pub digits : List ℕ
  pub suffix : List ℕ
  pub spells : text ≡ digits ++ suffix
  pub form : AreDigits digits
  pub bounded : IsBounded digits suffix

abbrev pub IsOneOf : List (List ℕ) → List ℕ → Type 0
IsOneOf [] text = ⊥
IsOneOf (sign ∷ signs) text = (text ≡ sign) ⊎ IsOneOf signs text

-- a text of a kind, in an annotation or in code
abbrev pub IsTokenText : Bool → TokenKind → List ℕ → Type 0
IsTokenText note Word text = IsWordText text
IsTokenText note Backslash text = IsBackslashText text
IsTokenText note Number text = IsNumberText text
IsTokenText note Sign text = IsOneOf (signs_of note note) text

-- each token's text is one of its kind
abbrev pub AreTexts : List ℕ → List Token → Type 0
AreTexts text tokens = AllByRecursion (λ token. IsTokenText token.note token.kind (token_text text token)) tokens
