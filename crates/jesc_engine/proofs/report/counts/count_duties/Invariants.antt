use Rattle.std.proofs.Common.{◌≡◌, ◌*◌, ◌≤◌, length, take}
use Rattle.std.specs.List.{sum_by}
use Rattle.jesc_engine.proofs.report.counts.count_duties.Given as goal

abbrev pub invariant-loop-file : goal.invariant-loop-file
invariant-loop-file l = record {
  sum : l.count ≡ sum_by (λ file. length file.judgements) (take l.file-index l.files);
  small : l.count ≤ 1048576 * l.file-index;
}
