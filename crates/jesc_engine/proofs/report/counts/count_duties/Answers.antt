use Rattle.std.proofs.Common.{length, sym, ap, ◌∙◌}
use Rattle.std.specs.List.{sum_by}
use Rattle.std.proofs.lemmas.List.{take_all}
use Rattle.jesc_engine.specs.declared.file.JudgedFile.{JudgedFile}
use Rattle.jesc_engine.proofs.Counts.{length_all}
use Rattle.jesc_engine.proofs.report.counts.count_duties.Goals as goal

pub returns : goal.returns
returns c =
    c.loop-file.invariant.sum
    ∙ ap (sum_by (λ (file : JudgedFile). length file.judgements)) (take_all c.loop-file.file-index c.args.files.now c.loop-file-test.false)
    ∙ sym (length_all c.args.files.now)
