use Rattle.std.proofs.Common.{take}
use Rattle.jesc_engine.specs.Files.{AreJudgedFiles}
use Rattle.jesc_engine.proofs.judge.judge_all.Given as goal

abbrev pub invariant-loop-file : goal.invariant-loop-file
invariant-loop-file l = AreJudgedFiles (take l.file-index l.files) l.judged
