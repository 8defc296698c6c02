-- What the calls that parse the longest tree of some kind answer.
use Rattle.std.specs.Prelude.{◌≡◌, ℕ, ◌-◌, ◌≤◌, List, drop, Result, Ok, Err}
use Rattle.jesc_lexer.specs.declared.token.Tokens.{Tokens}
use Rattle.jesc_ast.specs.Lexemes.{Lexeme, lexemes}
use Rattle.jesc_jml_parser.specs.declared.error.SyntaxError.{SyntaxError}
use Rattle.jesc_jml_parser.specs.declared.error.SyntaxError.TheVariants.{Token, LeftOut, Deep, OutOfMemory}
use Rattle.jesc_jml_parser.specs.LongestAnswers.{IsLongest, IsRefused, IsStuck}
use Rattle.jesc_jml_parser.specs.Refusals.{IsRefusal}

-- the lexemes of the tokens from this one on
abbrev pub lexemes_from : Tokens → ℕ → List Lexeme
lexemes_from tokens from = drop from (lexemes tokens)

-- `spells` says which lexemes spell a tree, and `fits` which trees are within the limits.
module _ {T : Type 0} (spells : T → List Lexeme → Type 0) (fits : T → Type 0) where
  -- the longest tree at `from`, and the token behind it
  pub record IsFoundTree (tokens : Tokens) (from : ℕ) (t : T) (next : ℕ) : Type 0 where
    pub later : from ≤ next
    pub longest : IsLongest spells fits (lexemes_from tokens from) t (next - from)

  -- no tree begins with the tokens from `from` up to that one, or none within the limits does
  abbrev pub IsTreeRefusal : Tokens → ℕ → SyntaxError → Type 0
  IsTreeRefusal tokens from =
      IsRefusal (λ at. IsRefused spells (lexemes_from tokens from) (at - from)) (λ at. IsStuck spells fits (lexemes_from tokens from) (at - from)) tokens from

-- what is answered is such, unless memory ran out
abbrev pub IsAnswer : {A : Type 0} → (A → Type 0) → Result A SyntaxError → Type 0
IsAnswer such (Ok a) = such a
IsAnswer such (Err (Token place text)) = ⊥
IsAnswer such (Err (LeftOut place word)) = ⊥
IsAnswer such (Err (Deep place)) = ⊥
IsAnswer such (Err OutOfMemory) = Unit {0}

-- The answer is this tree and the token behind it, unless memory ran out. `see` tells what a tree of the program stands for.
abbrev pub IsTreeAnswer : {X T : Type 0} → (X → T) → T → ℕ → Result (X × ℕ) SyntaxError → Type 0
IsTreeAnswer see t next = IsAnswer (λ a. (see a.0 ≡ t) × (a.1 ≡ next))
