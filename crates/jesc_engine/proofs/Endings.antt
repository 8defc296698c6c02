-- How a call ends, from what it wrote.
use Rattle.std.proofs.Common.{if◌then◌else◌, ◌≡◌, ℕ, inl, inr, Bool, true, false, List, Option, Result, Ok, Err, refl, sym, subst}
use Rattle.std.specs.List.{list_all}
use Rattle.jesc_io.specs.Contents.{Store, Gains}
use Rattle.jesc_io.specs.declared.outside.IoError.{IoError}
use Rattle.jesc_io.specs.declared.outside.IoError.TheVariants.{Failed}
use Rattle.jesc_io.specs.declared.outside.IoError.TheVariants as io
use Rattle.jesc_engine.specs.declared.answer.Judgement.{Judgement}
use Rattle.jesc_engine.specs.declared.top.Status.{Status}
use Rattle.jesc_engine.specs.declared.top.Status.TheVariants.{Verified, Warned, Refused, Usage, ReadFault, WriteFault, OutOfMemory, Partial}
use Rattle.jesc_engine.specs.Refusals.{IsRefusal}
use Rattle.jesc_engine.specs.Report.{FileReport, is_verified, all_judgements, report}
use Rattle.jesc_engine.specs.Judged.{Judges, HoldSafeProgram}
use Rattle.jesc_engine.specs.Ends.{IsComplaint, usage_line, Reports, ReportsInPart, ComplainsInPart, Stops, EndsOn, EndsInUsage}
use Rattle.jesc_engine.specs.After.{stop_status, status_after, verdict_of}
use Rattle.jesc_engine.proofs.Judgements.{all_proved, some_not_proved}
use Rattle.jesc_engine.proofs.Programs.{safe_program}

pub stops : (told : Option Store) (names : List (List ℕ)) (reads reads' : ℕ) (out out' err err' : Option (List ℕ)) (error : IoError)
    → Stops told names reads reads' out out' err err' → EndsOn told names reads reads' out out' err err' (stop_status error)
stops told names reads reads' out out' err err' Failed stopped = stopped
stops told names reads reads' out out' err err' io.OutOfMemory stopped = stopped

-- a line of `err` was written, or a prefix of it
pub complains : (told : Option Store) (names : List (List ℕ)) (reads reads' : ℕ) (out err err' : Option (List ℕ)) (status : Status) (line : List ℕ) (written : Result Unit IoError)
    → IsComplaint told names reads reads' status line → Gains err err' line written → EndsOn told names reads reads' out out err err' (status_after status written)
complains told names reads reads' out err err' ReadFault line (Ok done) complaint gained = record { line = line; complaint = complaint; gained = gained; silent = refl }
complains told names reads reads' out err err' Refused line (Ok done) complaint gained = record { line = line; complaint = complaint; gained = gained; silent = refl }
complains told names reads reads' out err err' Usage line (Ok done) complaint gained = absurd complaint
complains told names reads reads' out err err' Verified line (Ok done) complaint gained = absurd complaint
complains told names reads reads' out err err' Warned line (Ok done) complaint gained = absurd complaint
complains told names reads reads' out err err' WriteFault line (Ok done) complaint gained = absurd complaint
complains told names reads reads' out err err' OutOfMemory line (Ok done) complaint gained = absurd complaint
complains told names reads reads' out err err' Partial line (Ok done) complaint gained = absurd complaint
complains told names reads reads' out err err' status line (Err error) complaint gained =
    let part : ComplainsInPart told names reads reads' out out err err' = record { status = status; line = line; complaint = complaint; gained = gained; silent = refl } in
    stops told names reads reads' out out err err' error (inr (inr part))

-- the usage line was written, or a prefix of it
usage_after : (out err err' : Option (List ℕ)) (written : Result Unit IoError) → Gains err err' usage_line written → EndsInUsage out out err err' (status_after Usage written)
usage_after out err err' (Ok done) gained = (refl, gained)
usage_after out err err' (Err Failed) gained = (refl, gained)
usage_after out err err' (Err io.OutOfMemory) gained = (refl, gained)

pub says_usage : (out err err' : Option (List ℕ)) (status : Status) (written : Result Unit IoError) → status ≡ status_after Usage written
    → Gains err err' usage_line written → EndsInUsage out out err err' status
says_usage out err err' status written is gained = subst (EndsInUsage out out err err') (sym is) (usage_after out err err' written gained)

verified_or_warned : (told : Option Store) (names : List (List ℕ)) (reads reads' : ℕ) (files : List FileReport) (out out' err : Option (List ℕ)) (all : Bool)
    → list_all (λ judgement. is_verified judgement.findings) (all_judgements files) ≡ all → Reports told names files out out' err err
    → EndsOn told names reads reads' out out' err err (if all then Verified else Warned)
verified_or_warned told names reads reads' files out out' err true is whole = (files, whole, all_proved (all_judgements files) is)
verified_or_warned told names reads reads' files out out' err false is whole = (files, whole, some_not_proved (all_judgements files) is)

-- a report was written, or a prefix of it
pub reports : (told : Option Store) (names : List (List ℕ)) (reads reads' : ℕ) (files : List FileReport) (out out' err : Option (List ℕ)) (written : Result Unit IoError)
    → Judges told names files → Gains out out' (report files) written
    → EndsOn told names reads reads' out out' err err (status_after (verdict_of (all_judgements files)) written)
reports told names reads reads' files out out' err (Err error) judges gained =
    let part : ReportsInPart told names out out' err err = record { files = files; judges = judges; gained = gained; silent = refl } in
    stops told names reads reads' out out' err err error (inr (inl part))
reports told names reads reads' files out out' err (Ok done) judges gained =
    let whole : Reports told names files out out' err err = record { judges = judges; gained = gained; silent = refl } in
    verified_or_warned told names reads reads' files out out' err (list_all (λ judgement. is_verified judgement.findings) (all_judgements files)) refl whole

-- what `Verified` says of the files
pub verified_safe : (told : Option Store) (names : List (List ℕ)) (reads reads' : ℕ) (out out' err err' : Option (List ℕ)) (status : Status)
    → EndsOn told names reads reads' out out' err err' status → status ≡ Verified → HoldSafeProgram told names
verified_safe told names reads reads' out out' err err' status ends is =
    let verified : EndsOn told names reads reads' out out' err err' Verified = subst (EndsOn told names reads reads' out out' err err') is ends in
    safe_program told names verified.0 verified.1.judges verified.2

-- what `Refused` says of them
pub refused_cause : (told : Option Store) (names : List (List ℕ)) (reads reads' : ℕ) (out out' err err' : Option (List ℕ)) (status : Status)
    → EndsOn told names reads reads' out out' err err' status → status ≡ Refused → (line : List ℕ) × IsRefusal told names line
refused_cause told names reads reads' out out' err err' status ends is =
    let refused : EndsOn told names reads reads' out out' err err' Refused = subst (EndsOn told names reads reads' out out' err err') is ends in
    (refused.line, refused.complaint)
