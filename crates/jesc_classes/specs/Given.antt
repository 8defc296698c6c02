-- What the trees that headings are read from are: those that the tokens of files spell.
use Rattle.std.specs.Prelude.{◌≤◌, List, length, map, sum}
use Rattle.std.specs.List.{All, AllZip}
use Rattle.jesc_lexer.specs.declared.token.Tokens.{Tokens}
use Rattle.jesc_lexer.specs.Spans.{AreSpans}
use Rattle.jesc_ast.specs.declared.class.File.{File}
use Rattle.jesc_ast.specs.declared.word.Word.{Word}
use Rattle.jesc_ast.specs.Lines.{IsLines}
use Rattle.jesc_ast.specs.Members.{SpellsFile}
use Rattle.jesc_classes.specs.Headings.{Source}

-- tokens of a text, as the parsers take them, that spell the file
pub record IsSpelled (tokens : Tokens) (file : File) : Type 0 where
  pub spans : AreSpans (length tokens.text) 0 tokens.list
  pub short : length tokens.text ≤ 1048576
  pub spelled : SpellsFile tokens file

-- each file is spelled by its tokens, which are not too many together
pub record AreSpelled (all : List Tokens) (files : List File) : Type 0 where
  pub each : AllZip IsSpelled all files
  pub few : sum (map (λ tokens. length tokens.list) all) ≤ 8388608

abbrev pub AreGiven : List File → Type 0
AreGiven files = (all : List Tokens) × AreSpelled all files

-- a word whose line and column are numbers that a place can hold
abbrev pub IsPlaced : Word → Type 0
IsPlaced w = w.span.from ≤ 1048576

-- the words of a heading stand in a text that is short enough
pub record ArePlaced (s : Source) : Type 0 where
  pub lines : IsLines s.lines
  pub modifiers : All IsPlaced s.tree.modifiers
  pub name : IsPlaced s.tree.name
  pub extends : All IsPlaced s.tree.extends
  pub implements : All IsPlaced s.tree.implements
