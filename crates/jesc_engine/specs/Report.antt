-- The text of a report.
--
-- No two checks of a method have one kind, place and second place, so each finding that isn't Proved has a line of
-- its own, and there is nothing to merge.
use Rattle.std.specs.Prelude.{ℕ, Bool, true, false, not, if◌then◌else◌, List, [], ◌++◌, length, codes, Option, Some, None, count_by}
use Rattle.std.specs.List.{list_all, flat_map}
use Rattle.std.specs.Fmt.{decimal, signed_decimal}
use Rattle.jesc_text.specs.Places.{line_at, column_at}
use Rattle.jesc_first.specs.declared.check.Kind.{Kind}
use Rattle.jesc_first.specs.declared.check.Kind.TheVariants.{Overflow, Assert, Undefined, Postcondition}
use Rattle.jesc_first.specs.declared.tree.Method.{Method}
use Rattle.jesc_engine.specs.declared.answer.Answer.{Answer}
use Rattle.jesc_engine.specs.declared.answer.Answer.TheVariants.{Proved, Open, WideForms, WidePairs, WideNumber, Gap}
use Rattle.jesc_engine.specs.declared.answer.Finding.{Finding}
use Rattle.jesc_engine.specs.declared.answer.Judgement.{Judgement}

-- FILE:LINE:COL
abbrev pub place_text : List ℕ → List ℕ → ℕ → List ℕ
place_text name bytes offset = name ++ codes ":" ++ decimal (line_at bytes offset) ++ codes ":" ++ decimal (column_at bytes offset)

abbrev pub kind_word : Kind → List ℕ
kind_word Overflow = codes "Overflow"
kind_word Assert = codes "Assert"
kind_word Undefined = codes "Undefined"
kind_word Postcondition = codes "Postcondition"

-- a Proved check has no line, and so no cause
abbrev pub cause_text : Answer → List ℕ
cause_text Proved = []
cause_text Open = codes "open"
cause_text (WideForms n) = codes "wide forms " ++ decimal n
cause_text (WidePairs n) = codes "wide pairs " ++ decimal n
cause_text (WideNumber z) = codes "wide number " ++ signed_decimal z
cause_text Gap = codes "gap"

abbrev pub is_proved : Answer → Bool
is_proved Proved = true
is_proved Open = false
is_proved (WideForms n) = false
is_proved (WidePairs n) = false
is_proved (WideNumber z) = false
is_proved Gap = false

-- the second place of a warning, after a space
abbrev pub by_text : List ℕ → List ℕ → Option ℕ → List ℕ
by_text name bytes None = []
by_text name bytes (Some offset) = codes " " ++ place_text name bytes offset

-- FILE:LINE:COL: warning: KIND FILE:LINE:COL in DUTY: CAUSE
abbrev pub warning_line : List ℕ → List ℕ → List ℕ → Finding → List ℕ
warning_line name bytes duty finding =
    place_text name bytes finding.check.at ++ codes ": warning: " ++ kind_word finding.check.kind ++ by_text name bytes finding.check.by
    ++ codes " in " ++ duty ++ codes ": " ++ cause_text finding.answer ++ codes "\n"

-- the line of a finding, which is none where it is Proved
abbrev pub finding_line : List ℕ → List ℕ → List ℕ → Finding → List ℕ
finding_line name bytes duty finding = if is_proved finding.answer then [] else warning_line name bytes duty finding

abbrev pub is_verified : List Finding → Bool
is_verified findings = list_all (λ finding. is_proved finding.answer) findings

-- DUTY verified, or DUTY not verified
abbrev pub verdict_line : Judgement → List ℕ
verdict_line judgement = judgement.duty ++ (if is_verified judgement.findings then codes " verified\n" else codes " not verified\n")

-- the lines of one duty: its warnings in order, and then its verdict
abbrev pub duty_lines : List ℕ → List ℕ → Judgement → List ℕ
duty_lines name bytes judgement = flat_map (finding_line name bytes judgement.duty) judgement.findings ++ verdict_line judgement

abbrev pub count_verified : List Judgement → ℕ
count_verified judgements = count_by (λ judgement. is_verified judgement.findings) judgements

abbrev pub count_warned : List Judgement → ℕ
count_warned judgements = count_by (λ judgement. not (is_verified judgement.findings)) judgements

-- methods M, verified V, warned W, skipped 0
abbrev pub last_line : List Judgement → List ℕ
last_line judgements =
    codes "methods " ++ decimal (length judgements) ++ codes ", verified " ++ decimal (count_verified judgements)
    ++ codes ", warned " ++ decimal (count_warned judgements) ++ codes ", skipped 0\n"

-- What is reported of a file: its name, its bytes, and the judgements on the duties of its classes.
pub record FileReport : Type 0 where
  pub name : List ℕ
  pub bytes : List ℕ
  pub judgements : List Judgement

abbrev pub file_lines : FileReport → List ℕ
file_lines file = flat_map (duty_lines file.name file.bytes) file.judgements

abbrev pub all_judgements : List FileReport → List Judgement
all_judgements files = flat_map (λ file. file.judgements) files

-- the whole report: the lines of each duty in order, and the last line
abbrev pub report : List FileReport → List ℕ
report files = flat_map file_lines files ++ last_line (all_judgements files)

-- CLASS.METHOD/PARAMETERS
abbrev pub duty_text : List ℕ → Method → List ℕ
duty_text class method = class ++ codes "." ++ method.name ++ codes "/" ++ decimal (length method.parameters)
