-- Judgements of several files: their number, how many pass a test, and whether all do.
use Rattle.std.proofs.Common.{◌≡◌, ◌+◌, Bool, cond, ◌&&◌, List, [], ◌∷◌, length, map, count_by, refl, sym, ◌∙◌, ap, length-append}
use Rattle.std.specs.List.{list_all, sum_by}
use Rattle.std.proofs.lemmas.List.Sums.{sum_by-append, sum_by-cons}
use Rattle.std.proofs.lemmas.List.Folds.{list_all-append}
use Rattle.jesc_engine.specs.declared.answer.Judgement.{Judgement}
use Rattle.jesc_engine.specs.declared.file.JudgedFile.{JudgedFile}
use Rattle.jesc_engine.specs.Report.{all_judgements}
use Rattle.jesc_engine.specs.Files.{report_of}

pub length_all : (files : List JudgedFile) → length (all_judgements (map report_of files)) ≡ sum_by (λ file. length file.judgements) files
length_all [] = refl
length_all (file ∷ files) =
    length-append file.judgements (all_judgements (map report_of files)) ∙ ap (λ n. length file.judgements + n) (length_all files)
    ∙ sym (sum_by-cons (λ f. length f.judgements) file files)

pub count_all : (p : Judgement → Bool) (files : List JudgedFile) → count_by p (all_judgements (map report_of files)) ≡ sum_by (λ file. count_by p file.judgements) files
count_all p [] = refl
count_all p (file ∷ files) =
    sum_by-append (λ judgement. cond (p judgement) 1 0) file.judgements (all_judgements (map report_of files)) ∙ ap (λ n. count_by p file.judgements + n) (count_all p files)
    ∙ sym (sum_by-cons (λ f. count_by p f.judgements) file files)

pub all_all : (p : Judgement → Bool) (files : List JudgedFile) → list_all p (all_judgements (map report_of files)) ≡ list_all (λ file. list_all p file.judgements) files
all_all p [] = refl
all_all p (file ∷ files) =
    list_all-append p file.judgements (all_judgements (map report_of files)) ∙ ap (λ b. list_all p file.judgements && b) (all_all p files)
