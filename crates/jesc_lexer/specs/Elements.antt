-- The input elements of a file (JLS 3.5): white space, comments and tokens, and the marks of annotations, which stand in
-- comments. Their texts, one behind the other, are the text of the file.
use Rattle.std.specs.Prelude.{◌≡◌, ◌≤◌, ◌<◌, ℕ, ◌+◌, ◌&&◌, ◌||◌, not, nat_eq, Bool, true, false, IsFalse, List, [], ◌∷◌, ◌++◌, length, codes}
use Rattle.std.specs.List.{list_all, list_any, starts_with}
use Rattle.std.specs.Str.{chars}
use Rattle.jesc_lexer.specs.Characters.{is_white, is_line_feed, is_at_sign, is_word_part, is_key_mark, begins}
use Rattle.jesc_lexer.specs.Reading.{token}
use Rattle.jesc_lexer.specs.Texts.{IsTokenText}
use Rattle.jesc_lexer.specs.declared.token.Token.{Token}
use Rattle.jesc_lexer.specs.declared.token.TokenKind.{TokenKind}

-- ---- white space and comments

-- white space, one byte at least (JLS 3.6)
pub record IsBlank (text : List ℕ) : Type 0 where
  pub some : 0 < length text
  pub white : list_all is_white text ≡ true

-- within a line
abbrev pub IsInLine : List ℕ → Type 0
IsInLine body = list_all (λ b. not (is_line_feed b)) body ≡ true

-- a line feed comes next, or the end
abbrev pub EndsLine : List ℕ → Type 0
EndsLine rest = begins (λ b. not (is_line_feed b)) rest ≡ false

-- of all `*/` in this body and right behind it, the first is the one behind it (JLS 3.7)
abbrev pub IsClosed : List ℕ → Type 0
IsClosed body = (early late : List ℕ) → body ++ codes "*/" ≡ early ++ (codes "*/" ++ late) → length body ≤ length early

abbrev pub AreAtSigns : List ℕ → Type 0
AreAtSigns signs = list_all is_at_sign signs ≡ true

-- One or more groups of keys, each a `+` or a `-` and then characters of words, and then an at sign.
pub record HasKeys (text : List ℕ) : Type 0 where
  pub keys : List ℕ
  pub others : List ℕ
  pub spells : chars text ≡ keys ++ (64 ∷ others)
  pub starts : begins is_key_mark keys ≡ true
  pub goes : list_all (λ c. is_word_part c || is_key_mark c) keys ≡ true

-- behind `//` or `/*` this is the body of a plain comment, with what follows it: no annotation's, and none with keys
pub record IsPlain (body rest : List ℕ) : Type 0 where
  pub unmarked : begins is_at_sign body ≡ false
  pub without_keys : ¬ (HasKeys (body ++ rest))

-- no comment begins here
abbrev pub IsNoComment : List ℕ → Type 0
IsNoComment text = (starts_with nat_eq text (codes "//") ≡ false) × (starts_with nat_eq text (codes "/*") ≡ false)

-- ---- annotations

-- where a line begins in a block annotation, all at signs that stand there, and none elsewhere
abbrev pub IsMargin : Bool → List ℕ → List ℕ → Type 0
IsMargin true signs rest = AreAtSigns signs × (begins is_at_sign rest ≡ false)
IsMargin false signs rest = signs ≡ []

-- The inside of an annotation from an offset of the file on, as it is put together, and its tokens.
pub data IsInside (file : ℕ) (block : Bool) : ℕ → List ℕ → List Token → Type 0 where
  inside_ends : (at : ℕ) → IsInside file block at [] []
  inside_blank : (at : ℕ) (blank signs rest : List ℕ) (tokens : List Token) → IsBlank blank → begins is_white (signs ++ rest) ≡ false
      → IsMargin (block && list_any is_line_feed blank) signs rest → IsInside file block (at + (length blank + length signs)) rest tokens
      → IsInside file block at (blank ++ (signs ++ rest)) tokens
  inside_line_comment : (at : ℕ) (body rest : List ℕ) (tokens : List Token) → IsInLine body → EndsLine rest
      → IsInside file block (at + (2 + length body)) rest tokens → IsInside file block at (codes "//" ++ (body ++ rest)) tokens
  -- in a line annotation alone
  inside_block_comment : (at : ℕ) (body rest : List ℕ) (tokens : List Token) → IsFalse block → IsClosed body
      → IsInside file block (at + (length body + 4)) rest tokens → IsInside file block at (codes "/*" ++ (body ++ (codes "*/" ++ rest))) tokens
  inside_token : (at : ℕ) (kind : TokenKind) (own rest : List ℕ) (tokens : List Token) → IsTokenText true kind own → IsNoComment (own ++ rest)
      → IsInside file block (at + length own) rest tokens → IsInside file block at (own ++ rest) (token file true at kind (length own) ∷ tokens)

-- neither begins nor ends with an at sign
pub record IsTrimmed (inside : List ℕ) : Type 0 where
  pub front : begins is_at_sign inside ≡ false
  pub back : (front : List ℕ) → ¬ (inside ≡ front ++ (64 ∷ []))

-- ---- code

-- The code of a file from an offset on with its annotations, as it is put together, and its tokens.
pub data IsCode (file : ℕ) : ℕ → List ℕ → List Token → Type 0 where
  code_ends : (at : ℕ) → IsCode file at [] []
  code_blank : (at : ℕ) (blank rest : List ℕ) (tokens : List Token) → IsBlank blank → begins is_white rest ≡ false
      → IsCode file (at + length blank) rest tokens → IsCode file at (blank ++ rest) tokens
  code_line_comment : (at : ℕ) (body rest : List ℕ) (tokens : List Token) → IsInLine body → EndsLine rest → IsPlain body rest
      → IsCode file (at + (2 + length body)) rest tokens → IsCode file at (codes "//" ++ (body ++ rest)) tokens
  code_block_comment : (at : ℕ) (body rest : List ℕ) (tokens : List Token) → IsClosed body → IsPlain body (codes "*/" ++ rest)
      → IsCode file (at + (length body + 4)) rest tokens → IsCode file at (codes "/*" ++ (body ++ (codes "*/" ++ rest))) tokens
  code_token : (at : ℕ) (kind : TokenKind) (own rest : List ℕ) (tokens : List Token) → IsTokenText false kind own → IsNoComment (own ++ rest)
      → IsCode file (at + length own) rest tokens → IsCode file at (own ++ rest) (token file false at kind (length own) ∷ tokens)
  -- `//`, one at sign or more, and the inside up to the end of the line
  code_line_note : (at : ℕ) (signs inside rest : List ℕ) (noted tokens : List Token) → 0 < length signs → AreAtSigns signs
      → begins is_at_sign inside ≡ false → IsInLine inside → EndsLine rest → IsInside file false (at + (2 + length signs)) inside noted
      → IsCode file (at + (2 + (length signs + length inside))) rest tokens
      → IsCode file at (codes "//" ++ (signs ++ (inside ++ rest))) (noted ++ tokens)
  -- `/*`, one at sign or more, the inside, and at signs up to the `*/`
  code_block_note : (at : ℕ) (signs inside trail rest : List ℕ) (noted tokens : List Token) → 0 < length signs → AreAtSigns signs → IsTrimmed inside
      → AreAtSigns trail → IsClosed (signs ++ (inside ++ trail)) → IsInside file true (at + (2 + length signs)) inside noted
      → IsCode file (at + (length signs + (length inside + length trail) + 4)) rest tokens
      → IsCode file at (codes "/*" ++ (signs ++ (inside ++ (trail ++ (codes "*/" ++ rest))))) (noted ++ tokens)
