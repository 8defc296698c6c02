use Rattle.std.proofs.Common.{◌≡◌, take}
use Rattle.std.specs.List.{flat_map}
use Rattle.jesc_engine.specs.Report.{file_lines}
use Rattle.jesc_engine.specs.Files.{report_of}
use Rattle.jesc_engine.specs.Ends.{GainsAll}
use Rattle.jesc_engine.proofs.writing.write_files.Given as goal

abbrev pub invariant-loop-file : goal.invariant-loop-file
invariant-loop-file g l = record {
  gained : GainsAll (g.O.Sink.taken l.fn.out) (g.O.Sink.taken l.out) (flat_map (λ file. file_lines (report_of file)) (take l.file-index l.files));
  steady : g.O.Sink.faults l.out ≡ g.O.Sink.faults l.fn.out;
}
