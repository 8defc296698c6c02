use Rattle.std.proofs.Common.{◌≡◌, ◌*◌, ◌≤◌, take}
use Rattle.std.specs.List.{sum_by}
use Rattle.jesc_engine.specs.Report.{count_warned}
use Rattle.jesc_engine.proofs.report.counts.count_warned.Given as goal

abbrev pub invariant-loop-file : goal.invariant-loop-file
invariant-loop-file l = record {
  sum : l.count ≡ sum_by (λ file. count_warned file.judgements) (take l.file-index l.files);
  small : l.count ≤ 1048576 * l.file-index;
}
