-- What the files of a command hold: their contents, tokens and trees.
use Rattle.std.specs.Prelude.{◌≡◌, ℕ, ◌+◌, ◌<◌, ◌≤◌, List, [], ◌∷◌, ◌++◌, length, Option, IfSome}
use Rattle.jesc_io.specs.Contents.{Store, bytes_at}
use Rattle.jesc_lexer.specs.declared.token.Tokens.{Tokens}
use Rattle.jesc_lexer.specs.Lexed.{IsLexed}
use Rattle.jesc_ast.specs.Lexemes.{lexemes}
use Rattle.jesc_ast.specs.FileTrees.{SourceUnit}
use Rattle.jesc_ast.specs.Depth.{IsFileWithinLimits}
use Rattle.jesc_ast.specs.Members.{SpellsUnit}

-- the bytes are the content of this name, where the files tell it
abbrev pub IsContent : Option Store → List ℕ → List ℕ → Type 0
IsContent told name bytes = IfSome told (λ s. bytes ≡ bytes_at name s)

-- the content of this name has more than 1,048,576 bytes, where the files tell it
abbrev pub IsTooLarge : Option Store → List ℕ → Type 0
IsTooLarge told name = IfSome told (λ s. 1048576 < length (bytes_at name s))

-- the file of this name was read
pub record IsRead (told : Option Store) (name bytes : List ℕ) : Type 0 where
  pub content : IsContent told name bytes
  pub small : length bytes ≤ 1048576

-- these are its tokens; `number` is the file's place among the words
pub record HasTokens (told : Option Store) (number : ℕ) (name : List ℕ) (tokens : Tokens) : Type 0 where
  pub read : IsRead told name tokens.text
  pub lexed : IsLexed number tokens.text tokens.list

-- The tokens spell a file of the grammar, within its limits.
pub record HasUnit (told : Option Store) (number : ℕ) (name : List ℕ) (tokens : Tokens) : Type 0 where
  pub has : HasTokens told number name tokens
  pub unit : SourceUnit
  pub spelled : SpellsUnit unit (lexemes tokens)
  pub fits : IsFileWithinLimits unit

-- the files of these names, in order, have these tokens, each of which spell a file
abbrev pub HaveUnits : Option Store → ℕ → List (List ℕ) → List Tokens → Type 0
HaveUnits told number [] [] = Unit {0}
HaveUnits told number [] (tokens ∷ sources) = ⊥
HaveUnits told number (name ∷ names) [] = ⊥
HaveUnits told number (name ∷ names) (tokens ∷ sources) = HasUnit told number name tokens × HaveUnits told (number + 1) names sources

-- the bytes of all of them
abbrev pub total : List Tokens → ℕ
total [] = 0
total (tokens ∷ sources) = length tokens.text + total sources

-- All files of the command have these tokens, which spell files, and are not too large together.
pub record AreSources (told : Option Store) (names : List (List ℕ)) (sources : List Tokens) : Type 0 where
  pub units : HaveUnits told 0 names sources
  pub small : total sources ≤ 8388608

-- The files before the one of this name have these tokens.
pub record Precede (told : Option Store) (names : List (List ℕ)) (earlier : List Tokens) (name : List ℕ) : Type 0 where
  pub before : List (List ℕ)
  pub after : List (List ℕ)
  pub parts : names ≡ before ++ name ∷ after
  pub sources : AreSources told before earlier
