use Rattle.std.proofs.Common.{◌++◌, map, Err, sym, subst}
use Rattle.std.specs.List.{flat_map}
use Rattle.jesc_io.specs.Contents.{Gains}
use Rattle.jesc_engine.specs.Report.{file_lines, all_judgements, last_line}
use Rattle.jesc_engine.specs.Files.{report_of}
use Rattle.jesc_engine.proofs.Gaining.{gains_then, gains_part, flat_map-map}
use Rattle.jesc_engine.proofs.writing.write_report.Goals as goal

pub returns-in-Ok-clause-gains : goal.returns-in-Ok-clause-gains
returns-in-Ok-clause-gains g c =
    let files = c.args.files.now in
    let last = last_line (all_judgements (map report_of files)) in
    let before = g.O.Sink.taken c.args.out.now in
    let now = g.O.Sink.taken c.write_last_line.new.out in
    subst (λ text. Gains before now (text ++ last) c.write_last_line.result) (sym (flat_map-map file_lines report_of files))
    (gains_then before (g.O.Sink.taken c.write_files.new.out) now (flat_map (λ file. file_lines (report_of file)) files) last c.write_last_line.result
    c.in-Ok.ensures.gains c.write_last_line.ensures.gains)

pub returns-in-Err-clause-gains : goal.returns-in-Err-clause-gains
returns-in-Err-clause-gains g c =
    let files = c.args.files.now in
    let last = last_line (all_judgements (map report_of files)) in
    let before = g.O.Sink.taken c.args.out.now in
    let now = g.O.Sink.taken c.write_files.new.out in
    subst (λ text. Gains before now (text ++ last) (Err c.in-Err.error)) (sym (flat_map-map file_lines report_of files))
    (gains_part before now (flat_map (λ file. file_lines (report_of file)) files) last c.in-Err.error c.in-Err.ensures.gains)
