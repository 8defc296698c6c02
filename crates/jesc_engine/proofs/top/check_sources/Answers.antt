use Rattle.std.proofs.Common.{[], List, ◌∙◌, sym, ap, subst}
use Rattle.jesc_engine.specs.declared.file.SourceFile.{SourceFile}
use Rattle.jesc_engine.specs.Sources.{AreSources}
use Rattle.jesc_engine.specs.Files.{source_names, source_tokens, class_sources, AreClassed}
use Rattle.jesc_engine.specs.Ends.{EndsOn}
use Rattle.jesc_engine.proofs.top.check_sources.Goals as goal

pub returns-in-Ok-clause-ends : goal.returns-in-Ok-clause-ends
returns-in-Ok-clause-ends g c = λ told reads reads' are.
    let files = c.as_slice.result.now in
    let out = g.O.Sink.taken c.args.out.now in
    let out' = g.O.Sink.taken c.check_program.new.out in
    let err = g.E.Sink.taken c.args.err.now in
    let same = ap class_sources c.as_slice.ensures ∙ c.in-Ok.ensures.sources in
    let classed = subst (AreClassed []) (sym c.as_slice.ensures) c.in-Ok.ensures.classed in
    let here = subst (λ (ss : List SourceFile). AreSources told (source_names ss) (source_tokens ss)) (sym same) are in
    subst (λ (ss : List SourceFile). EndsOn told (source_names ss) reads reads' out out' err err c.check_program.result) same
    (c.check_program.ensures.ends told reads reads' err classed here)

pub returns-in-Err-clause-ends : goal.returns-in-Err-clause-ends
returns-in-Err-clause-ends g c = λ told reads reads' are.
    c.complain.ensures.ends told (source_names c.args.sources.now) reads reads' (g.O.Sink.taken c.args.out.now) (c.in-Err.ensures.stopped told reads reads' are)
