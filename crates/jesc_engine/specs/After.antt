-- The status with which a call ends, from its answer and from how its writing went.
use Rattle.std.specs.Prelude.{if◌then◌else◌, List, Result, Ok, Err}
use Rattle.std.specs.List.{list_all}
use Rattle.jesc_io.specs.declared.outside.IoError.{IoError}
use Rattle.jesc_io.specs.declared.outside.IoError.TheVariants.{Failed}
use Rattle.jesc_io.specs.declared.outside.IoError.TheVariants as io
use Rattle.jesc_engine.specs.declared.answer.Judgement.{Judgement}
use Rattle.jesc_engine.specs.declared.top.Status.{Status}
use Rattle.jesc_engine.specs.declared.top.Status.TheVariants.{Verified, Warned, WriteFault, OutOfMemory}
use Rattle.jesc_engine.specs.Report.{is_verified}

-- a failed output, or want of memory
abbrev pub stop_status : IoError → Status
stop_status Failed = WriteFault
stop_status io.OutOfMemory = OutOfMemory

-- the answer, if all of it was written
abbrev pub status_after : Status → Result Unit IoError → Status
status_after answer (Ok done) = answer
status_after answer (Err error) = stop_status error

abbrev pub verdict_of : List Judgement → Status
verdict_of judgements = if list_all (λ judgement. is_verified judgement.findings) judgements then Verified else Warned
