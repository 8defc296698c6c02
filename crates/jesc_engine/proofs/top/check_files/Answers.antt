use Rattle.std.proofs.Common.{◌∙◌, map, sym, ap, subst}
use Rattle.std.specs.String.{string_bytes}
use Rattle.jesc_engine.specs.Sources.{AreSources}
use Rattle.jesc_engine.specs.Files.{source_names, source_tokens}
use Rattle.jesc_engine.specs.Ends.{EndsOn}
use Rattle.jesc_engine.proofs.top.check_files.Goals as goal

pub returns-in-Ok-clause-ends : goal.returns-in-Ok-clause-ends
returns-in-Ok-clause-ends g c =
    let told = g.F.Files.told c.args.files.now in
    let reads = g.F.Files.read_faults c.args.files.now in
    let reads' = g.F.Files.read_faults c.read_sources.new.files in
    let sources = c.as_slice.result.now in
    let out = g.O.Sink.taken c.args.out.now in
    let out' = g.O.Sink.taken c.check_sources.new.out in
    let err = g.E.Sink.taken c.args.err.now in
    let err' = g.E.Sink.taken c.check_sources.new.err in
    let named = ap source_names c.as_slice.ensures ∙ c.in-Ok.ensures.names in
    let here = subst (λ ts. AreSources told (map string_bytes c.args.names.now) ts) (ap source_tokens (sym c.as_slice.ensures)) c.in-Ok.ensures.sources in
    let are = subst (λ ns. AreSources told ns (source_tokens sources)) (sym named) here in
    subst (λ ns. EndsOn told ns reads reads' out out' err err' c.check_sources.result) named (c.check_sources.ensures.ends told reads reads' are)

pub returns-in-Err-clause-ends : goal.returns-in-Err-clause-ends
returns-in-Err-clause-ends g c =
    c.complain.ensures.ends (g.F.Files.told c.args.files.now) (map string_bytes c.args.names.now) (g.F.Files.read_faults c.args.files.now)
    (g.F.Files.read_faults c.read_sources.new.files) (g.O.Sink.taken c.args.out.now) c.in-Err.ensures.stopped
