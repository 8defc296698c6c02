use Rattle.std.proofs.Common.{sym, ap, ◌∙◌}
use Rattle.std.specs.List.{sum_by}
use Rattle.std.proofs.lemmas.List.{take_all}
use Rattle.jesc_engine.specs.declared.file.JudgedFile.{JudgedFile}
use Rattle.jesc_engine.specs.Report.{is_verified, count_verified}
use Rattle.jesc_engine.proofs.Counts.{count_all}
use Rattle.jesc_engine.proofs.report.counts.count_verified.Goals as goal

pub returns : goal.returns
returns c =
    c.loop-file.invariant.sum
    ∙ ap (sum_by (λ (file : JudgedFile). count_verified file.judgements)) (take_all c.loop-file.file-index c.args.files.now c.loop-file-test.false)
    ∙ sym (count_all (λ judgement. is_verified judgement.findings) c.args.files.now)
