use Rattle.jesc_engine.specs.Report.{file_lines}
use Rattle.jesc_engine.specs.Files.{report_of}
use Rattle.jesc_engine.proofs.Gaining.{gains_at}
use Rattle.jesc_engine.proofs.writing.write_files.Goals as goal

pub returns-in-Err-clause-gains : goal.returns-in-Err-clause-gains
returns-in-Err-clause-gains g c =
    gains_at (λ file. file_lines (report_of file)) c.args.files.now c.loop-file.file-index c.file-item.result
    (g.O.Sink.taken c.args.out.now) (g.O.Sink.taken c.loop-file.out) (g.O.Sink.taken c.write_file.new.out) c.in-Err.error
    c.loop-file-test.true c.file-item.is c.loop-file.invariant.gained c.in-Err.ensures.gains
