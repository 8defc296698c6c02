-- What a refusal of the reader says.
use Rattle.std.specs.Prelude.{◌≡◌, ℕ, ◌+◌, ◌<◌, ◌≤◌, true, List, [], ◌∷◌, ◌++◌, length, take, drop, codes, All, Contains, ◌⊎◌}
use Rattle.jesc_lexer.specs.declared.token.TokenKind.TheVariants.{Word}
use Rattle.jesc_ast.specs.Lexemes.{Lexeme}
use Rattle.jesc_first.specs.declared.tree.Part.TheVariants.{Slot}
use Rattle.jesc_first.specs.declared.tree.Condition.{Condition}
use Rattle.jesc_first.specs.declared.tree.Class.{Class}
use Rattle.jesc_first.specs.declared.reader.ReadError.{ReadError}
use Rattle.jesc_first.specs.declared.reader.ReadError.TheVariants.{Outside, OutOfMemory}
use Rattle.jesc_first.specs.Spelling.{Piece, Fits, Match, word, part_piece, condition_pieces, heading_pieces}
use Rattle.jesc_first.specs.Names.{IsName}
use Rattle.jesc_first.specs.Accepted.{Accepted}

-- No file of the profile begins with the lexemes up to the one at this place. Where that is the end, they are none.
pub record IsStopped (before : List (List ℕ)) (lexemes : List Lexeme) (at : ℕ) : Type 0 where
  pub within : at ≤ length lexemes
  pub lexeme : at < length lexemes → (more : List Lexeme) (classes : List Class) → ¬ (Accepted before (take (at + 1) lexemes ++ more) classes)
  pub end : at ≡ length lexemes → (classes : List Class) → ¬ (Accepted before lexemes classes)

-- The lexemes and the name behind them are the beginning of these pieces, where the name's piece is that of a slot.
pub record BeginUpTo (scope : List (List ℕ)) (whole : List Piece) (lexemes : List Lexeme) (name : Lexeme) : Type 0 where
  pub slot : ℕ
  pub pieces : List Piece
  pub more : List Piece
  pub spelled : whole ≡ pieces ++ part_piece true scope (Slot slot) ∷ more
  pub fits : Match (lexemes ++ name ∷ []) (pieces ++ part_piece true scope (Slot slot) ∷ [])

-- The name stands behind these lexemes in the condition of a clause: from behind the first word of the clause on, the
-- lexemes up to it are the beginning of a condition over some names, in which a name stands there.
pub record IsInCondition (before : List Lexeme) (name : Lexeme) : Type 0 where
  pub front : List Lexeme
  pub opener : Lexeme
  pub inside : List Lexeme
  pub parts : before ≡ front ++ opener ∷ inside
  pub opens : Fits opener (word true (codes "requires")) ⊎ Fits opener (word true (codes "ensures"))
  pub scope : List (List ℕ)
  pub condition : Condition
  pub begins : BeginUpTo scope (condition_pieces scope condition) inside name

-- The first of the lexemes `behind` is a name in a clause, behind whose annotation the heading of a method stands, and no
-- parameter of that heading has this name.
pub record IsForeign (before behind : List Lexeme) : Type 0 where
  pub name : Lexeme
  pub clauses : List Lexeme
  pub heading : List Lexeme
  pub rest : List Lexeme
  pub parts : behind ≡ name ∷ clauses ++ heading ++ rest
  pub is_word : name.kind ≡ Word
  pub named : IsName name.text
  pub placed : IsInCondition before name
  pub noted : All (λ x. x.note ≡ true) (name ∷ clauses)
  pub result : List ℕ
  pub method : List ℕ
  pub parameters : List (List ℕ)
  pub matched : Match heading (heading_pieces result method parameters)
  pub foreign : ¬ (Contains parameters name.text)

-- The lexeme at this place, or one behind it, stops every file of the profile; it is that lexeme, or a name in a
-- specification that names no parameter.
pub record Strays (before : List (List ℕ)) (lexemes : List Lexeme) (at : ℕ) : Type 0 where
  pub stop : ℕ
  pub later : at ≤ stop
  pub stopped : IsStopped before lexemes stop
  pub cause : (at ≡ stop) ⊎ IsForeign (take at lexemes) (drop at lexemes)

-- a refusal tells where the lexemes stray, unless memory ran out
abbrev pub IsOutside : List (List ℕ) → List Lexeme → ReadError → Type 0
IsOutside before lexemes (Outside at) = Strays before lexemes at
IsOutside before lexemes OutOfMemory = Unit {0}
