-- The classes of the files, as they are read one file after another.
use Rattle.std.proofs.Common.{◌≡◌, ◌≢◌, ℕ, ◌+◌, ◌<◌, List, [], ◌∷◌, ◌++◌, length, take, drop, get_or, map, Option, codes, refl, sym, ◌∙◌, ap, subst, suc, append_assoc}
use Rattle.std.specs.List.{flat_map}
use Rattle.std.proofs.lemmas.List.{append-nil, map-append, length-map, take_more}
use Rattle.std.proofs.lemmas.List.Concat.{flat_map-append}
use Rattle.jesc_io.specs.Contents.{Store}
use Rattle.jesc_lexer.specs.declared.token.Tokens.{Tokens}
use Rattle.jesc_ast.specs.Lexemes.{lexemes}
use Rattle.jesc_text.specs.declared.place.Place.{Place}
use Rattle.jesc_first.specs.declared.tree.Class.{Class}
use Rattle.jesc_first.specs.Accepted.{Accepted, names_of}
use Rattle.jesc_first.specs.Outside.{Strays}
use Rattle.jesc_engine.specs.declared.file.SourceFile.{SourceFile}
use Rattle.jesc_engine.specs.declared.file.ClassFile.{ClassFile}
use Rattle.jesc_engine.specs.declared.file.JudgedFile.{JudgedFile}
use Rattle.jesc_engine.specs.declared.stop.Cause.{Cause}
use Rattle.jesc_engine.specs.declared.stop.Cause.TheVariants.{CannotRead, TooLarge, TooLargeTogether, Lexical, Syntax, Outside, OutOfMemory}
use Rattle.jesc_engine.specs.declared.top.Status.TheVariants.{Refused}
use Rattle.jesc_engine.specs.Sources.{AreSources}
use Rattle.jesc_engine.specs.Refusals.{refused_at, AreAccepted, IsOutside, is_outside}
use Rattle.jesc_engine.specs.Judged.{all_duties, AreJudgements, IsJudged, AreJudged}
use Rattle.jesc_engine.specs.Ends.{IsComplaint}
use Rattle.jesc_engine.specs.Causes.{cause_line, IsStray, IsComplaintOf}
use Rattle.jesc_engine.specs.Files.{source_names, source_tokens, class_sources, AreClassed, AreJudgedFiles, report_of}
use Rattle.jesc_engine.proofs.Readings.{map_cut}

-- all classes of the files, and their names
abbrev pub class_list : List ClassFile → List Class
class_list files = flat_map (λ file. file.classes) files

abbrev pub class_names : List ClassFile → List (List ℕ)
class_names files = flat_map (λ file. names_of file.classes) files

-- one more file
pub classed_more : (before : List (List ℕ)) (files : List ClassFile) (file : ClassFile) → AreClassed before files
    → Accepted (before ++ class_names files) (lexemes file.source.now.tokens) file.classes → AreClassed before (files ++ file ∷ [])
classed_more before [] file classed accepted = (subst (λ names. Accepted names (lexemes file.source.now.tokens) file.classes) (append-nil before) accepted, tt)
classed_more before (f ∷ fs) file classed accepted =
    let regrouped = sym (append_assoc before (names_of f.classes) (class_names fs)) in
    (classed.0, classed_more (before ++ names_of f.classes) fs file classed.1 (subst (λ names. Accepted names (lexemes file.source.now.tokens) file.classes) regrouped accepted))

pub program_more : (sources : List SourceFile) (i : ℕ) (source : SourceFile) (files now : List ClassFile) (file : ClassFile) (names names' : List (List ℕ))
    → i < length sources → source ≡ get_or sources i source → file.source.now ≡ source
    → class_sources files ≡ take i sources → AreClassed [] files → names ≡ class_names files
    → Accepted names (lexemes file.source.now.tokens) file.classes → names' ≡ names ++ names_of file.classes → now ≡ files ++ file ∷ []
    → (class_sources now ≡ take (i + 1) sources) × AreClassed [] now × (names' ≡ class_names now)
program_more sources i source files now file names names' within item here same classed named accepted more grown = (
  ap class_sources grown ∙ map-append (λ f. f.source.now) files (file ∷ []) ∙ ap (λ ss. ss ++ file.source.now ∷ []) same
      ∙ ap (λ s. take i sources ++ s ∷ []) (here ∙ item) ∙ sym (take_more sources i source within),
  subst (AreClassed []) (sym grown) (classed_more [] files file classed (subst (λ ns. Accepted ns (lexemes file.source.now.tokens) file.classes) named accepted)),
  more ∙ ap (λ ns. ns ++ names_of file.classes) named
      ∙ ap (λ ns. class_names files ++ ns) (sym (append-nil (names_of file.classes)))
      ∙ sym (flat_map-append (λ f. names_of f.classes) files (file ∷ [])) ∙ ap class_names (sym grown),
)

accepted_all : (before : List (List ℕ)) (files : List ClassFile) → AreClassed before files → AreAccepted before (source_tokens (class_sources files)) (class_list files)
accepted_all before [] classed = refl
accepted_all before (f ∷ fs) classed = (f.classes, class_list fs, refl, classed.0, accepted_all (before ++ names_of f.classes) fs classed.1)

names_of_all : (files : List ClassFile) → names_of (class_list files) ≡ class_names files
names_of_all [] = refl
names_of_all (f ∷ fs) = map-append (λ class. class.name) f.classes (class_list fs) ∙ ap (λ names. names_of f.classes ++ names) (names_of_all fs)

same_length : (sources : List SourceFile) → length (source_names sources) ≡ length (source_tokens sources)
same_length sources = length-map sources (λ source. source.name.now) ∙ sym (length-map sources (λ source. source.tokens))

told_text : (name : List ℕ) (place other : Place) (text more : List ℕ) → place ≡ other → text ≡ more
    → refused_at name place ++ codes "P1 outside the first profile: " ++ text ++ codes "\n" ≡ refused_at name other ++ codes "P1 outside the first profile: " ++ more ++ codes "\n"
told_text name place other text more here same =
    ap (λ p. refused_at name p ++ codes "P1 outside the first profile: " ++ text ++ codes "\n") here
    ∙ ap (λ t. refused_at name other ++ codes "P1 outside the first profile: " ++ t ++ codes "\n") same

-- the refusal of a file outside the first profile, behind files with these classes
outside : (told : Option Store) (sources : List SourceFile) (i : ℕ) (source : SourceFile) (files : List ClassFile) (names : List (List ℕ)) (place : Place) (text : List ℕ)
    → i < length sources → source ≡ get_or sources i source → class_sources files ≡ take i sources → AreClassed [] files → names ≡ class_names files
    → AreSources told (source_names sources) (source_tokens sources) → IsStray names source.tokens (Outside place text)
    → IsOutside told (source_names sources) source.name.now (cause_line source.name.now (Outside place text))
outside told sources i source files names place text within item same classed named are stray =
    record {
      earlier = source_tokens (take i sources);
      tokens = source.tokens;
      later = source_tokens (drop (i + 1) sources);
      before = source_names (take i sources);
      after = source_names (drop (i + 1) sources);
      parts = map_cut (λ s. s.name.now) sources i source within item;
      place = same_length (take i sources);
      sources = subst (AreSources told (source_names sources)) (map_cut (λ s. s.tokens) sources i source within item) are;
      classes = class_list files;
      accepted = subst (λ (ss : List SourceFile). AreAccepted [] (source_tokens ss) (class_list files)) same (accepted_all [] files classed);
      at = stray.0;
      strays = subst (λ ns. Strays ns (lexemes source.tokens) stray.0) (named ∙ sym (names_of_all files)) (stray.1 (λ same. cc));
      text = told_text source.name.now _ _ _ _ stray.2.0 stray.2.1;
    }

pub stray_complaint : (told : Option Store) (reads reads' : ℕ) (sources : List SourceFile) (i : ℕ) (source : SourceFile) (files : List ClassFile) (names : List (List ℕ)) (cause : Cause)
    → i < length sources → source ≡ get_or sources i source → class_sources files ≡ take i sources → AreClassed [] files → names ≡ class_names files
    → AreSources told (source_names sources) (source_tokens sources) → IsStray names source.tokens cause
    → IsComplaintOf told (source_names sources) reads reads' source.name.now cause
stray_complaint told reads reads' sources i source files names CannotRead within item same classed named are stray = absurd stray.2
stray_complaint told reads reads' sources i source files names TooLarge within item same classed named are stray = absurd stray.2
stray_complaint told reads reads' sources i source files names (TooLargeTogether bytes) within item same classed named are stray = absurd stray.2
stray_complaint told reads reads' sources i source files names (Lexical number place word) within item same classed named are stray = absurd stray.2
stray_complaint told reads reads' sources i source files names (Syntax error) within item same classed named are stray = absurd stray.2
stray_complaint told reads reads' sources i source files names (Outside place text) within item same classed named are stray =
    (source.name.now, is_outside (cause_line source.name.now (Outside place text)) (outside told sources i source files names place text within item same classed named are stray))
stray_complaint told reads reads' sources i source files names OutOfMemory within item same classed named are stray = tt

-- a cause that tells a place is no failed read
pub no_failed_read : (names : List (List ℕ)) (tokens : Tokens) (cause : Cause) → IsStray names tokens cause → cause ≢ CannotRead
no_failed_read names tokens CannotRead stray is = stray.2
no_failed_read names tokens TooLarge stray is = cc
no_failed_read names tokens (TooLargeTogether bytes) stray is = cc
no_failed_read names tokens (Lexical number place word) stray is = cc
no_failed_read names tokens (Syntax error) stray is = cc
no_failed_read names tokens (Outside place text) stray is = cc
no_failed_read names tokens OutOfMemory stray is = cc

-- a cause with a line, and no failed read, has the line of a refusal
pub refused_complaint : (told : Option Store) (names : List (List ℕ)) (reads reads' : ℕ) (name : List ℕ) (cause : Cause) → cause ≢ CannotRead → cause ≢ OutOfMemory
    → IsComplaintOf told names reads reads' name cause → IsComplaint told names reads reads' Refused (cause_line name cause)
refused_complaint told names reads reads' name CannotRead some other complaint = absurd (some refl)
refused_complaint told names reads reads' name TooLarge some other complaint = complaint
refused_complaint told names reads reads' name (TooLargeTogether bytes) some other complaint = complaint
refused_complaint told names reads reads' name (Lexical number place word) some other complaint = complaint
refused_complaint told names reads reads' name (Syntax error) some other complaint = complaint
refused_complaint told names reads reads' name (Outside place text) some other complaint = complaint
refused_complaint told names reads reads' name OutOfMemory some other complaint = absurd (other refl)

-- ---- judged files

pub judged_files_more : (files : List ClassFile) (judged : List JudgedFile) (file : ClassFile) (one : JudgedFile) → AreJudgedFiles files judged
    → one.source.now ≡ file.source.now → AreJudgements (all_duties file.classes) one.judgements → AreJudgedFiles (files ++ file ∷ []) (judged ++ one ∷ [])
judged_files_more [] [] file one before same here = (same, here, tt)
judged_files_more [] (j ∷ js) file one before same here = absurd before
judged_files_more (f ∷ fs) [] file one before same here = absurd before
judged_files_more (f ∷ fs) (j ∷ js) file one before same here = (before.0, before.1, judged_files_more fs js file one before.2 same here)

pub as_many_files : (files : List ClassFile) (judged : List JudgedFile) → AreJudgedFiles files judged → length judged ≡ length files
as_many_files [] [] each = refl
as_many_files [] (j ∷ js) each = absurd each
as_many_files (f ∷ fs) [] each = absurd each
as_many_files (f ∷ fs) (j ∷ js) each = ap suc (as_many_files fs js each.2)

pub judged_next : (files : List ClassFile) (i : ℕ) (file : ClassFile) (judged now : List JudgedFile) (one : JudgedFile)
    → i < length files → file ≡ get_or files i file → AreJudgedFiles (take i files) judged → one.source.now ≡ file.source.now
    → AreJudgements (all_duties file.classes) one.judgements → now ≡ judged ++ one ∷ [] → AreJudgedFiles (take (i + 1) files) now
judged_next files i file judged now one within item before same here grown =
    let more = judged_files_more (take i files) judged file one before same here in
    let taken : take (i + 1) files ≡ take i files ++ file ∷ [] = take_more files i file within ∙ ap (λ f. take i files ++ f ∷ []) (sym item) in
    subst (AreJudgedFiles (take (i + 1) files)) (sym grown) (subst (λ fs. AreJudgedFiles fs (judged ++ one ∷ [])) (sym taken) more)

pub judged_program : (before : List (List ℕ)) (files : List ClassFile) (judged : List JudgedFile) → AreClassed before files → AreJudgedFiles files judged
    → AreJudged before (source_names (class_sources files)) (source_tokens (class_sources files)) (map report_of judged)
judged_program before [] [] classed each = tt
judged_program before [] (j ∷ js) classed each = absurd each
judged_program before (f ∷ fs) [] classed each = absurd each
judged_program before (f ∷ fs) (j ∷ js) classed each =
    let first : IsJudged before f.source.now.name.now f.source.now.tokens f.classes (report_of j) = record {
      named = ap (λ (s : SourceFile). s.name.now) each.0;
      text = ap (λ (s : SourceFile). s.tokens.text) each.0;
      accepted = classed.0;
      judged = each.1;
    } in
    (f.classes, first, judged_program (before ++ names_of f.classes) fs js classed.1 each.2)
