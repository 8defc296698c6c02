-- What the top call has done when it ends, by its status.
--
-- `told` is what the files tell of their contents before the call; `reads` and `reads'` are their counts of failed reads
-- before it and after it. `out` and `err` are what the two outputs tell that they have taken before it, `out'` and
-- `err'` after it. Where an object tells nothing, the clauses on it say nothing.
use Rattle.std.specs.Prelude.{◌≡◌, ◌⊎◌, ℕ, List, ◌++◌, take, codes, Option, option_map, String}
use Rattle.std.specs.declared.alloc.Global.{Global}
use Rattle.jesc_io.specs.Contents.{Store}
use Rattle.jesc_io.specs.Faults.{Rose}
use Rattle.jesc_lexer.specs.declared.token.Tokens.{Tokens}
use Rattle.jesc_engine.specs.declared.top.Status.{Status}
use Rattle.jesc_engine.specs.declared.top.Status.TheVariants.{Verified, Warned, Refused, Usage, ReadFault, WriteFault, OutOfMemory, Partial}
use Rattle.jesc_engine.specs.Command.{IsCommand, names_of}
use Rattle.jesc_engine.specs.Sources.{Precede}
use Rattle.jesc_engine.specs.Refusals.{IsRefusal}
use Rattle.jesc_engine.specs.Report.{FileReport, all_judgements, report}
use Rattle.jesc_engine.specs.Judged.{Judges, AllProved, SomeNotProved}

-- an output has taken exactly this text
abbrev pub GainsAll : Option (List ℕ) → Option (List ℕ) → List ℕ → Type 0
GainsAll before now text = now ≡ option_map (λ taken. taken ++ text) before

-- an output has taken a prefix of this text
abbrev pub GainsPrefix : Option (List ℕ) → Option (List ℕ) → List ℕ → Type 0
GainsPrefix before now text = (count : ℕ) × (now ≡ option_map (λ taken. taken ++ take count text) before)

abbrev pub usage_line : List ℕ
usage_line = codes "jesc: usage: --esc FILE... | --check FILE... | --demo N\n"

abbrev pub cannot_read_line : List ℕ → List ℕ
cannot_read_line name = name ++ codes ": cannot read\n"

-- A read failed, at the file of some name; the files before it were read and spell files of the grammar.
pub record IsUnread (told : Option Store) (names : List (List ℕ)) (reads reads' : ℕ) (line : List ℕ) : Type 0 where
  pub rose : Rose reads reads'
  pub name : List ℕ
  pub earlier : List Tokens
  pub precede : Precede told names earlier name
  pub text : line ≡ cannot_read_line name

-- the one line of `err` for a status that has one, with its cause: a read failed, or a file is refused
abbrev pub IsComplaint : Option Store → List (List ℕ) → ℕ → ℕ → Status → List ℕ → Type 0
IsComplaint told names reads reads' ReadFault line = IsUnread told names reads reads' line
IsComplaint told names reads reads' Refused line = IsRefusal told names line
IsComplaint told names reads reads' Usage line = ⊥
IsComplaint told names reads reads' Verified line = ⊥
IsComplaint told names reads reads' Warned line = ⊥
IsComplaint told names reads reads' WriteFault line = ⊥
IsComplaint told names reads reads' OutOfMemory line = ⊥
IsComplaint told names reads reads' Partial line = ⊥

-- `out` has gained exactly the report on these files, and `err` nothing.
pub record Reports (told : Option Store) (names : List (List ℕ)) (files : List FileReport) (out out' err err' : Option (List ℕ)) : Type 0 where
  pub judges : Judges told names files
  pub gained : GainsAll out out' (report files)
  pub silent : err' ≡ err

-- `err` has gained exactly the line of this status, and `out` nothing.
pub record Complains (told : Option Store) (names : List (List ℕ)) (reads reads' : ℕ) (status : Status) (out out' err err' : Option (List ℕ)) : Type 0 where
  pub line : List ℕ
  pub complaint : IsComplaint told names reads reads' status line
  pub gained : GainsAll err err' line
  pub silent : out' ≡ out

-- `out` has gained a prefix of a report, and `err` nothing.
pub record ReportsInPart (told : Option Store) (names : List (List ℕ)) (out out' err err' : Option (List ℕ)) : Type 0 where
  pub files : List FileReport
  pub judges : Judges told names files
  pub gained : GainsPrefix out out' (report files)
  pub silent : err' ≡ err

-- `err` has gained a prefix of a line that some status has, whose cause is there, and `out` nothing.
pub record ComplainsInPart (told : Option Store) (names : List (List ℕ)) (reads reads' : ℕ) (out out' err err' : Option (List ℕ)) : Type 0 where
  pub status : Status
  pub line : List ℕ
  pub complaint : IsComplaint told names reads reads' status line
  pub gained : GainsPrefix err err' line
  pub silent : out' ≡ out

-- The call stopped: with nothing written, in the midst of a report, or in the midst of a line of `err`.
abbrev pub Stops : Option Store → List (List ℕ) → ℕ → ℕ → Option (List ℕ) → Option (List ℕ) → Option (List ℕ) → Option (List ℕ) → Type 0
Stops told names reads reads' out out' err err' =
    ((out' ≡ out) × (err' ≡ err)) ⊎ ReportsInPart told names out out' err err' ⊎ ComplainsInPart told names reads reads' out out' err err'

-- how the check of the files of these names ends, by its status
abbrev pub EndsOn : Option Store → List (List ℕ) → ℕ → ℕ → Option (List ℕ) → Option (List ℕ) → Option (List ℕ) → Option (List ℕ) → Status → Type 0
EndsOn told names reads reads' out out' err err' Verified =
    (files : List FileReport) × Reports told names files out out' err err' × AllProved (all_judgements files)
EndsOn told names reads reads' out out' err err' Warned =
    (files : List FileReport) × Reports told names files out out' err err' × SomeNotProved (all_judgements files)
EndsOn told names reads reads' out out' err err' Refused = Complains told names reads reads' Refused out out' err err'
EndsOn told names reads reads' out out' err err' ReadFault = Complains told names reads reads' ReadFault out out' err err'
EndsOn told names reads reads' out out' err err' WriteFault = Stops told names reads reads' out out' err err'
EndsOn told names reads reads' out out' err err' OutOfMemory = Stops told names reads reads' out out' err err'
EndsOn told names reads reads' out out' err err' Usage = ⊥
EndsOn told names reads reads' out out' err err' Partial = ⊥

-- how a call ends that has only the usage line to write, by its status
abbrev pub EndsInUsage : Option (List ℕ) → Option (List ℕ) → Option (List ℕ) → Option (List ℕ) → Status → Type 0
EndsInUsage out out' err err' Usage = (out' ≡ out) × GainsAll err err' usage_line
EndsInUsage out out' err err' WriteFault = (out' ≡ out) × GainsPrefix err err' usage_line
EndsInUsage out out' err err' OutOfMemory = (out' ≡ out) × GainsPrefix err err' usage_line
EndsInUsage out out' err err' Verified = ⊥
EndsInUsage out out' err err' Warned = ⊥
EndsInUsage out out' err err' Refused = ⊥
EndsInUsage out out' err err' ReadFault = ⊥
EndsInUsage out out' err err' Partial = ⊥

-- How the call ends: its words are the command, and it ends on the files that they name; or they are not, and it ends in the usage line.
abbrev pub Ends : List (String Global) → Option Store → ℕ → ℕ → Option (List ℕ) → Option (List ℕ) → Option (List ℕ) → Option (List ℕ) → Status → Type 0
Ends words told reads reads' out out' err err' status =
    (IsCommand words × EndsOn told (names_of words) reads reads' out out' err err' status)
    ⊎ (¬ (IsCommand words) × EndsInUsage out out' err err' status)
