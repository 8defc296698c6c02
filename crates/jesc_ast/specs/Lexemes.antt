-- Tokens as the grammar sees them: each with its text.
use Prim.Native.String.{String}
use Rattle.std.specs.Prelude.{ℕ, Bool, List, [], ◌∷◌, map, codes, slice_range, nat_le, ◌&&◌}
use Rattle.jesc_text.specs.declared.place.Span.{Span}
use Rattle.jesc_lexer.specs.declared.token.TokenKind.{TokenKind}
use Rattle.jesc_lexer.specs.declared.token.TokenKind.TheVariants as kinds
use Rattle.jesc_lexer.specs.declared.token.Token.{Token}
use Rattle.jesc_lexer.specs.declared.token.Tokens.{Tokens}
use Rattle.jesc_ast.specs.declared.word.Word.{Word}

pub record Lexeme : Type 0 where
  pub kind : TokenKind
  pub text : List ℕ
  pub span : Span
  pub note : Bool

-- whether the token's span lies in a text of so many bytes
abbrev pub is_within : ℕ → Token → Bool
is_within len token = nat_le token.span.from token.span.to && nat_le token.span.to len

-- a token of this text
abbrev pub lexeme_of : List ℕ → Token → Lexeme
lexeme_of text token = record {
  kind = token.kind;
  text = slice_range text token.span.from token.span.to;
  span = token.span;
  note = token.note;
}

abbrev pub lexemes : Tokens → List Lexeme
lexemes tokens = map (lexeme_of tokens.text) tokens.list

-- ---- the lexemes of one side: with `note` those of annotations, without it those of code

abbrev pub word : Bool → String → Span → Lexeme
word note text span = record { kind = kinds.Word; text = codes text; span = span; note = note }

abbrev pub backslash : Bool → String → Span → Lexeme
backslash note text span = record { kind = kinds.Backslash; text = codes text; span = span; note = note }

abbrev pub sign : Bool → String → Span → Lexeme
sign note text span = record { kind = kinds.Sign; text = codes text; span = span; note = note }

-- a word of the writer's choice, and what a tree keeps of it
abbrev pub chosen_word : Bool → List ℕ → Span → Lexeme
chosen_word note text span = record { kind = kinds.Word; text = text; span = span; note = note }

abbrev pub chosen_sign : Bool → List ℕ → Span → Lexeme
chosen_sign note text span = record { kind = kinds.Sign; text = text; span = span; note = note }

abbrev pub chosen_backslash : Bool → List ℕ → Span → Lexeme
chosen_backslash note text span = record { kind = kinds.Backslash; text = text; span = span; note = note }

abbrev pub number_of : Bool → List ℕ → Span → Lexeme
number_of note text span = record { kind = kinds.Number; text = text; span = span; note = note }

abbrev pub kept : Bool → List ℕ → Span → Word
kept note text span = record { text = text; note = note; span = span }

-- ---- spans

-- from the start of the first to the end of the last
abbrev pub join : Span → Span → Span
join first last = record { file = first.file; from = first.from; to = last.to }

abbrev pub last_of : Lexeme → List Lexeme → Lexeme
last_of x [] = x
last_of x (y ∷ ys) = last_of y ys

-- the span of lexemes, of which there is one at least
abbrev pub span_of_all : List Lexeme → Span
span_of_all [] = record { file = 0; from = 0; to = 0 }
span_of_all (x ∷ xs) = join x.span (last_of x xs).span
