-- Texts with a meaning, and steps that look at the next lexeme itself.
use Rattle.std.specs.Prelude.{ℕ, Bool, true, false, ◌&&◌, if◌then◌else◌, bytes_eq, List, [], ◌∷◌, Ok}
use Rattle.jesc_lexer.specs.declared.token.TokenKind.{TokenKind}
use Rattle.jesc_lexer.specs.declared.token.TokenKind.TheVariants as kinds
use Rattle.jesc_ast.specs.Lexemes.{Lexeme}
use Rattle.jesc_jml_grammar.specs.Marks.{is_same_side}
use Rattle.jesc_jml_grammar.specs.Steps.{Parser, ◌>>=◌, refuse, take_one}

-- ---- the next lexeme

abbrev pub is_word_kind : TokenKind → Bool
is_word_kind kinds.Word = true
is_word_kind _ = false

abbrev pub is_sign_kind : TokenKind → Bool
is_sign_kind kinds.Sign = true
is_sign_kind _ = false

-- a word of this side whose text passes the test
abbrev pub is_word_that : (List ℕ → Bool) → Bool → Lexeme → Bool
is_word_that test note x = is_word_kind x.kind && is_same_side note x.note && test x.text

-- a sign of this side whose text passes the test
abbrev pub is_sign_that : (List ℕ → Bool) → Bool → Lexeme → Bool
is_sign_that test note x = is_sign_kind x.kind && is_same_side note x.note && test x.text

abbrev pub is_word : List ℕ → Bool → Lexeme → Bool
is_word text = is_word_that (λ t. bytes_eq t text)

abbrev pub is_sign : List ℕ → Bool → Lexeme → Bool
is_sign text = is_sign_that (λ t. bytes_eq t text)

abbrev pub next_is : (Lexeme → Bool) → List Lexeme → Bool
next_is test [] = false
next_is test (x ∷ xs) = test x

-- whether the next lexeme passes the test
abbrev pub see_if : (Lexeme → Bool) → Parser Bool
see_if test = λ ts. Ok (next_is test ts, ts)

-- the next lexeme, if it passes the test
unfoldable pub take_if : (Lexeme → Bool) → Parser Lexeme
take_if test = see_if test >>= λ there. if there then take_one else refuse

-- ---- texts

-- what stands with the text, or the other where the text isn't there
abbrev pub found_among : {M : Type 0} → List (List ℕ × M) → M → List ℕ → M
found_among [] other text = other
found_among (entry ∷ entries) other text = if bytes_eq text entry.0 then entry.1 else found_among entries other text
