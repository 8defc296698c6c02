-- The judgements on a program: all classes of all its files.
use Rattle.std.specs.Prelude.{◌≡◌, ◌≢◌, List, [], ◌∷◌, ◌++◌, ℕ, map, Option, All, Any}
use Rattle.std.specs.List.{flat_map}
use Rattle.jesc_io.specs.Contents.{Store}
use Rattle.jesc_lexer.specs.declared.token.Tokens.{Tokens}
use Rattle.jesc_ast.specs.Lexemes.{lexemes}
use Rattle.jesc_first.specs.declared.tree.Method.{Method}
use Rattle.jesc_first.specs.declared.tree.Class.{Class}
use Rattle.jesc_first.specs.Accepted.{Accepted, names_of, duties, Safe}
use Rattle.jesc_engine.specs.declared.answer.Answer.TheVariants.{Proved}
use Rattle.jesc_engine.specs.declared.answer.Judgement.{Judgement}
use Rattle.jesc_engine.specs.Findings.{AreFindings, AreProved}
use Rattle.jesc_engine.specs.Report.{FileReport, duty_text}
use Rattle.jesc_engine.specs.Sources.{AreSources}
use Rattle.jesc_engine.specs.Refusals.{AreAccepted}

-- a duty of a class of this name
pub record Duty : Type 0 where
  pub class : List ℕ
  pub method : Method

abbrev pub duty_of : List ℕ → Method → Duty
duty_of class method = record { class = class; method = method }

-- the duties of a class, in order
abbrev pub class_duties : Class → List Duty
class_duties class = map (duty_of class.name) (duties class)

-- the duties of classes, in order
abbrev pub all_duties : List Class → List Duty
all_duties classes = flat_map class_duties classes

-- a judgement on each duty, in order: its name, and its findings
abbrev pub AreJudgements : List Duty → List Judgement → Type 0
AreJudgements [] [] = Unit {0}
AreJudgements [] (judgement ∷ judgements) = ⊥
AreJudgements (duty ∷ duties) [] = ⊥
AreJudgements (duty ∷ duties) (judgement ∷ judgements) =
    (judgement.duty ≡ duty_text duty.class duty.method) × AreFindings duty.method judgement.findings × AreJudgements duties judgements

-- What is reported of a file is the judgements on its classes. `before` are the names of the classes of earlier files.
pub record IsJudged (before : List (List ℕ)) (name : List ℕ) (tokens : Tokens) (classes : List Class) (file : FileReport) : Type 0 where
  pub named : file.name ≡ name
  pub text : file.bytes ≡ tokens.text
  pub accepted : Accepted before (lexemes tokens) classes
  pub judged : AreJudgements (all_duties classes) file.judgements

-- the same of all files, in order
abbrev pub AreJudged : List (List ℕ) → List (List ℕ) → List Tokens → List FileReport → Type 0
AreJudged before [] [] [] = Unit {0}
AreJudged before (name ∷ names) (tokens ∷ sources) (file ∷ files) =
    (classes : List Class) × IsJudged before name tokens classes file × AreJudged (before ++ names_of classes) names sources files
AreJudged before _ _ _ = ⊥

-- The files of these names hold an accepted program, and this is reported of them.
pub record Judges (told : Option Store) (names : List (List ℕ)) (files : List FileReport) : Type 0 where
  pub tokens : List Tokens
  pub sources : AreSources told names tokens
  pub judged : AreJudged [] names tokens files

-- each check of each duty is proved
abbrev pub AllProved : List Judgement → Type 0
AllProved judgements = All (λ judgement. AreProved judgement.findings) judgements

-- some check of some duty is not
abbrev pub SomeNotProved : List Judgement → Type 0
SomeNotProved judgements = Any (λ judgement. Any (λ finding. finding.answer ≢ Proved) judgement.findings) judgements

-- The files of these names spell files of the grammar, which are an accepted program; no call of any method of its
-- classes fails a check.
pub record HoldSafeProgram (told : Option Store) (names : List (List ℕ)) : Type 0 where
  pub tokens : List Tokens
  pub sources : AreSources told names tokens
  pub classes : List Class
  pub accepted : AreAccepted [] tokens classes
  pub safe : All Safe classes
