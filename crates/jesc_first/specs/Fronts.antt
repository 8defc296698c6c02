-- What lexemes begin with.
use Rattle.std.specs.Prelude.{◌≡◌, ℕ, true, false, List, [], ◌∷◌, ◌++◌, All, Contains, Some, None, codes, ◌⊎◌}
use Rattle.jesc_lexer.specs.declared.token.TokenKind.TheVariants.{Word}
use Rattle.jesc_ast.specs.Lexemes.{Lexeme}
use Rattle.jesc_first.specs.Spelling.{Piece, Match, word, sign, parameter_pieces, heading_pieces}
use Rattle.jesc_first.specs.Parsing.{Texts}
use Rattle.jesc_first.specs.Names.{IsName}
use Rattle.jesc_first.specs.Outside.{IsInCondition, IsForeign}
use Rattle.jesc_first.specs.Recognizing.{State, start, run}

-- the lexemes begin with ones that fit the pieces, and the rest comes after those
pub record Taken (tokens : List Lexeme) (pieces : List Piece) (rest : List Lexeme) : Type 0 where
  pub front : List Lexeme
  pub split : tokens ≡ front ++ rest
  pub fits : Match front pieces

-- all of the texts are among the names
abbrev pub AreAmong : Texts → Texts → Type 0
AreAmong texts names = (text : List ℕ) → Contains texts text → Contains names text

-- ---- a heading

-- static RESULT NAME (
pub record Opens (tokens rest : List Lexeme) : Type 0 where
  pub result : List ℕ
  pub method : List ℕ
  pub taken : Taken tokens (word false (codes "static") ∷ word false result ∷ word false method ∷ sign false (codes "(") ∷ []) rest

-- , int NAME , int NAME ..
abbrev pub further_pieces : Texts → List Piece
further_pieces [] = []
further_pieces (name ∷ names) = sign false (codes ",") ∷ word false (codes "int") ∷ word false name ∷ further_pieces names

-- further parameters, which are among the new names, as the old names are
pub record Furthers (tokens : List Lexeme) (old : Texts) (rest : List Lexeme) (new : Texts) : Type 0 where
  pub parameters : Texts
  pub taken : Taken tokens (further_pieces parameters) rest
  pub kept : AreAmong old new
  pub among : AreAmong parameters new

-- parameters, which are among the names
pub record Lists (tokens rest : List Lexeme) (names : Texts) : Type 0 where
  pub parameters : Texts
  pub taken : Taken tokens (parameter_pieces parameters) rest
  pub among : AreAmong parameters names

-- a heading, whose parameters are among the names
pub record HasHeading (tokens : List Lexeme) (names : Texts) : Type 0 where
  pub rest : List Lexeme
  pub result : List ℕ
  pub method : List ℕ
  pub parameters : Texts
  pub taken : Taken tokens (heading_pieces result method parameters) rest
  pub among : AreAmong parameters names

-- ---- a place behind some lexemes

-- it stands behind lexemes of annotations
pub record IsBehindNotes (tokens place : List Lexeme) : Type 0 where
  pub front : List Lexeme
  pub split : tokens ≡ front ++ place
  pub noted : All (λ x. x.note ≡ true) front

-- it is a name in a clause, behind lexemes of annotations, that isn't among the names
pub record IsStrange (tokens : List Lexeme) (names : Texts) (place : List Lexeme) : Type 0 where
  pub behind : IsBehindNotes tokens place
  pub name : Lexeme
  pub rest : List Lexeme
  pub first : place ≡ name ∷ rest
  pub is_word : name.kind ≡ Word
  pub is_noted : name.note ≡ true
  pub named : IsName name.text
  pub placed : IsInCondition behind.front name
  pub strange : ¬ (Contains names name.text)

-- it is a name in a specification that names no parameter
pub record IsForeignPlace (tokens place : List Lexeme) : Type 0 where
  pub front : List Lexeme
  pub split : tokens ≡ front ++ place
  pub foreign : IsForeign front place

-- the recognizer stops with the lexeme at the place, or the lexemes end there
abbrev pub Stops : Texts → List Lexeme → List Lexeme → Type 0
Stops before front [] = Unit {0}
Stops before front (x ∷ rest) = run (start before) (front ++ x ∷ []) ≡ None

-- the recognizer has taken the lexemes up to the place
pub record IsReached (before : Texts) (tokens place : List Lexeme) (state : State) : Type 0 where
  pub front : List Lexeme
  pub split : tokens ≡ front ++ place
  pub ran : run (start before) front ≡ Some state

-- a place that shows that the lexemes are no file, if they are none
pub record IsPlace (before : Texts) (tokens place : List Lexeme) : Type 0 where
  pub front : List Lexeme
  pub split : tokens ≡ front ++ place
  pub cause : Stops before front place ⊎ IsForeign front place
