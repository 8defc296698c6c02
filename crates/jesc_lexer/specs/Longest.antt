-- Longest match: which texts are tokens at a place, and that no longer one begins there (JLS 3.2).
use Rattle.std.specs.Prelude.{◌≡◌, ◌≤◌, ℕ, ◌-◌, Bool, true, false, List, [], ◌∷◌, ◌++◌, length, take, drop, codes, ◌⊎◌}
use Rattle.std.specs.Str.{chars}
use Rattle.unicode_ident.specs.Ident.{is_xid_continue}
use Rattle.jesc_lexer.specs.Characters.{is_suffix, begins}
use Rattle.jesc_lexer.specs.Lexemes.{note_signs, double_signs, single_signs}
use Rattle.jesc_lexer.specs.Reading.{token_text}
use Rattle.jesc_lexer.specs.Texts.{IsWordText, IsBackslashText, AreDigits, IsOneOf}
use Rattle.jesc_lexer.specs.declared.token.Token.{Token}
use Rattle.jesc_lexer.specs.declared.token.TokenKind.{TokenKind}
use Rattle.jesc_lexer.specs.declared.token.TokenKind.TheVariants.{Word, Backslash, Number, Sign}

-- no suffix, or an `L` or an `l`
abbrev pub IsSuffix : List ℕ → Type 0
IsSuffix [] = Unit {0}
IsSuffix (suffix ∷ []) = is_suffix suffix ≡ true
IsSuffix (suffix ∷ (other ∷ more)) = ⊥

-- a number in decimal (JLS 3.10.1), whatever its value
pub record IsNumberForm (text : List ℕ) : Type 0 where
  pub digits : List ℕ
  pub suffix : List ℕ
  pub spells : text ≡ digits ++ suffix
  pub form : AreDigits digits
  pub ended : IsSuffix suffix

-- of these tokens the last is a word, and the one before it the word `represents`
pub record AreNamed (text : List ℕ) (tokens : List Token) : Type 0 where
  pub earlier : List Token
  pub first : Token
  pub second : Token
  pub whole : tokens ≡ earlier ++ (first ∷ (second ∷ []))
  pub represents : token_text text first ≡ codes "represents"
  pub word : second.kind ≡ Word

-- A sign behind these tokens. Four signs stand in annotations alone, and `<-` there only behind `represents` and a word.
abbrev pub IsSignAt : List ℕ → List Token → Bool → List ℕ → Type 0
IsSignAt text before false own = IsOneOf (double_signs ++ single_signs) own
IsSignAt text before true own = IsOneOf (note_signs ++ (double_signs ++ single_signs)) own ⊎ ((own ≡ codes "<-") × AreNamed text before)

-- a token's text of this kind behind these tokens, in an annotation or in code
abbrev pub IsTokenAt : List ℕ → List Token → Bool → TokenKind → List ℕ → Type 0
IsTokenAt text before note Word own = IsWordText own
IsTokenAt text before note Backslash own = IsBackslashText own
IsTokenAt text before note Number own = IsNumberForm own
IsTokenAt text before note Sign own = IsSignAt text before note own

-- The token behind these has a text of its kind, and each token's text that begins at its place, up to whatever offset of
-- the file, is of that kind and no longer. No letter, digit or underscore follows a number directly.
pub record IsLongest (text : List ℕ) (before : List Token) (token : Token) : Type 0 where
  pub own : IsTokenAt text before token.note token.kind (token_text text token)
  pub longest : (kind : TokenKind) (to : ℕ) → to ≤ length text → IsTokenAt text before token.note kind (take (to - token.span.from) (drop token.span.from text))
      → (kind ≡ token.kind) × (to ≤ token.span.to)
  pub apart : token.kind ≡ Number → begins is_xid_continue (chars (drop token.span.to text)) ≡ false
