use Rattle.std.proofs.Common.{◌≡◌, [], ◌∙◌, map, sym, ap, subst, arith}
use Rattle.jesc_io.specs.Contents.{Gains}
use Rattle.jesc_engine.specs.Report.{all_judgements, report}
use Rattle.jesc_engine.specs.Judged.{Judges}
use Rattle.jesc_engine.specs.Files.{source_names, source_tokens, class_sources, AreJudgedFiles, report_of}
use Rattle.jesc_engine.specs.Ends.{EndsOn}
use Rattle.jesc_engine.specs.After.{status_after, verdict_of}
use Rattle.jesc_engine.proofs.Endings.{reports}
use Rattle.jesc_engine.proofs.ClassLists.{as_many_files, judged_program}
use Rattle.jesc_engine.proofs.top.check_program.Goals as goal

pub write_report-written-requires : goal.write_report-written-requires
write_report-written-requires g c =
    let each : AreJudgedFiles c.args.files.now c.as_slice.result.now = subst (AreJudgedFiles c.args.files.now) (sym c.as_slice.ensures) c.in-Ok.ensures in
    omega (arith, as_many_files c.args.files.now c.as_slice.result.now each, c.requires)

pub returns-in-Ok-clause-ends : goal.returns-in-Ok-clause-ends
returns-in-Ok-clause-ends g c = λ told reads reads' err classed sources.
    let files = class_sources c.args.files.now in
    let names = source_names files in
    let judged = map report_of c.in-Ok.judged in
    let before = g.O.Sink.taken c.args.out.now in
    let now = g.O.Sink.taken c.write_report-written.new.out in
    let written = c.write_report-written.result in
    let judges : Judges told names judged = record {
      tokens = source_tokens files;
      sources = sources;
      judged = judged_program [] c.args.files.now c.in-Ok.judged classed c.in-Ok.ensures;
    } in
    let gained : Gains before now (report judged) written =
    subst (λ js. Gains before now (report (map report_of js)) written) c.as_slice.ensures c.write_report-written.ensures.gains in
    let status : c.ended.result ≡ status_after (verdict_of (all_judgements judged)) written =
    c.ended.ensures ∙ ap (λ answer. status_after answer written) (c.verdict.ensures ∙ ap (λ js. verdict_of (all_judgements (map report_of js))) c.as_slice-in-Ok.ensures) in
    subst (λ s. EndsOn told names reads reads' before now err err s) (sym status) (reports told names reads reads' judged before now err written judges gained)
