-- The files of one program, and how many tokens they have.
use Rattle.std.specs.Prelude.{◌≡◌, ℕ, ◌≤◌, List, length, map, sum}
use Rattle.std.specs.List.{AllZip}
use Rattle.jesc_lexer.specs.declared.token.Tokens.{Tokens}
use Rattle.jesc_ast.specs.declared.class.File.{File}
use Rattle.jesc_classes.specs.Given.{IsSpelled}

-- the files are spelled by tokens, of which there are so many together
pub record AreCounted (files : List File) (count : ℕ) : Type 0 where
  pub all : List Tokens
  pub each : AllZip IsSpelled all files
  pub together : sum (map (λ tokens. length tokens.list) all) ≡ count
  pub few : count ≤ 8388608
