-- A program whose checks are all proved is safe.
use Rattle.std.proofs.Common.{◌≡◌, ℕ, List, [], ◌∷◌, ◌++◌, Option, All, refl}
use Rattle.std.proofs.lemmas.List.Elements.{All-nil, All-append}
use Rattle.jesc_io.specs.Contents.{Store}
use Rattle.jesc_lexer.specs.declared.token.Tokens.{Tokens}
use Rattle.jesc_first.specs.declared.tree.Class.{Class}
use Rattle.jesc_first.specs.Accepted.{names_of, Safe}
use Rattle.jesc_engine.specs.Refusals.{AreAccepted}
use Rattle.jesc_engine.specs.Report.{FileReport, all_judgements}
use Rattle.jesc_engine.specs.Findings.{AreProved}
use Rattle.jesc_engine.specs.Judged.{AreJudged, Judges, AllProved, HoldSafeProgram}
use Rattle.jesc_engine.proofs.Judgements.{all_left, all_right, safe_classes}

-- the classes of judged files
classes_of : (before : List (List ℕ)) (names : List (List ℕ)) (tokens : List Tokens) (files : List FileReport) → AreJudged before names tokens files
    → AllProved (all_judgements files) → (classes : List Class) × AreAccepted before tokens classes × All Safe classes
classes_of before [] [] [] judged proved = ([], refl, All-nil Safe)
classes_of before [] [] (file ∷ files) judged proved = absurd judged
classes_of before [] (t ∷ ts) files judged proved = absurd judged
classes_of before (name ∷ names) [] files judged proved = absurd judged
classes_of before (name ∷ names) (t ∷ ts) [] judged proved = absurd judged
classes_of before (name ∷ names) (t ∷ ts) (file ∷ files) judged proved =
    let first = judged.0 in
    let here = all_left (λ judgement. AreProved judgement.findings) file.judgements (all_judgements files) proved in
    let rest = classes_of (before ++ names_of first) names ts files judged.2 (all_right (λ judgement. AreProved judgement.findings) file.judgements (all_judgements files) proved) in
    (first ++ rest.0, (first, rest.0, refl, judged.1.accepted, rest.1), All-append Safe first rest.0 (safe_classes first file.judgements judged.1.judged here) rest.2)

pub safe_program : (told : Option Store) (names : List (List ℕ)) (files : List FileReport) → Judges told names files → AllProved (all_judgements files)
    → HoldSafeProgram told names
safe_program told names files judges proved =
    let classes = classes_of [] names judges.tokens files judges.judged proved in
    record { tokens = judges.tokens; sources = judges.sources; classes = classes.0; accepted = classes.1; safe = classes.2 }
