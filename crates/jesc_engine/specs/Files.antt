-- The program's files as the definitions see them: their names, their tokens, their classes and the report on them.
use Rattle.std.specs.Prelude.{◌≡◌, ℕ, ◌+◌, ◌≤◌, List, [], ◌∷◌, ◌++◌, length, map, Option}
use Rattle.jesc_io.specs.Contents.{Store}
use Rattle.jesc_lexer.specs.declared.token.Tokens.{Tokens}
use Rattle.jesc_ast.specs.Lexemes.{lexemes}
use Rattle.jesc_first.specs.Accepted.{Accepted, names_of}
use Rattle.jesc_engine.specs.declared.file.SourceFile.{SourceFile}
use Rattle.jesc_engine.specs.declared.sources.Sources.{Sources}
use Rattle.jesc_engine.specs.declared.file.ClassFile.{ClassFile}
use Rattle.jesc_engine.specs.declared.file.JudgedFile.{JudgedFile}
use Rattle.jesc_engine.specs.Sources.{HasUnit}
use Rattle.jesc_engine.specs.Report.{FileReport}
use Rattle.jesc_engine.specs.Judged.{all_duties, AreJudgements}

abbrev pub source_names : List SourceFile → List (List ℕ)
source_names sources = map (λ source. source.name.now) sources

abbrev pub source_tokens : List SourceFile → List Tokens
source_tokens sources = map (λ source. source.tokens) sources

-- A file of this name, with its tokens, has been added to those that were read.
pub record IsNext (told : Option Store) (name : List ℕ) (before now : Sources) : Type 0 where
  pub source : SourceFile
  pub files : now.files ≡ before.files ++ source ∷ []
  pub bytes : now.bytes ≡ before.bytes + length source.tokens.text
  pub named : source.name.now ≡ name
  pub unit : HasUnit told (length before.files) name source.tokens
  pub small : now.bytes ≤ 8388608

-- the sources of files with classes
abbrev pub class_sources : List ClassFile → List SourceFile
class_sources files = map (λ file. file.source.now) files

-- the classes of each file are accepted behind those of the files before it; `before` are the names of earlier classes
abbrev pub AreClassed : List (List ℕ) → List ClassFile → Type 0
AreClassed before [] = Unit {0}
AreClassed before (file ∷ files) =
    Accepted before (lexemes file.source.now.tokens) file.classes × AreClassed (before ++ names_of file.classes) files

-- the same files, each with the judgements on its duties
abbrev pub AreJudgedFiles : List ClassFile → List JudgedFile → Type 0
AreJudgedFiles [] [] = Unit {0}
AreJudgedFiles [] (judged ∷ more) = ⊥
AreJudgedFiles (file ∷ files) [] = ⊥
AreJudgedFiles (file ∷ files) (judged ∷ more) =
    (judged.source.now ≡ file.source.now) × AreJudgements (all_duties file.classes) judged.judgements × AreJudgedFiles files more

-- what is reported of a file
abbrev pub report_of : JudgedFile → FileReport
report_of file = record { name = file.source.now.name.now; bytes = file.source.now.tokens.text; judgements = file.judgements }
