use Rattle.std.proofs.Common.{◌+◌, [], ◌∷◌, ◌++◌, length, take, map, sym, ap, ◌∙◌, subst}
use Rattle.std.specs.String.{string_bytes}
use Rattle.std.proofs.lemmas.List.{length_push}
use Rattle.jesc_engine.proofs.Readings.{map_more_at}
use Rattle.jesc_engine.proofs.SourceLists.{AreReadSoFar, read_one_more, stopped_at}
use Rattle.jesc_engine.proofs.sources.read_sources.Goals as goal

pub returns-in-Err-clause-stopped : goal.returns-in-Err-clause-stopped
returns-in-Err-clause-stopped g c =
    let so_far = c.loop-word.invariant in
    stopped_at (g.F.Files.told c.args.files.now) (g.F.Files.told c.loop-word.files) c.args.names.now c.loop-word.word-index c.word-item.result c.as_str-name.result.now
    c.loop-word.sources (g.F.Files.read_faults c.args.files.now) (g.F.Files.read_faults c.loop-word.files) (g.F.Files.read_faults c.read_next.new.files) c.in-Err.cause
    so_far.same c.loop-word-test.true c.word-item.is c.as_str-name.ensures.value so_far.so_far so_far.reads c.in-Err.ensures.refused

pub loop-word-preserved : goal.loop-word-preserved
loop-word-preserved g c =
    let so_far = c.loop-word.invariant in
    let next = c.in-Ok.ensures.more in
    let one_more = read_one_more (g.F.Files.told c.args.files.now) (g.F.Files.told c.loop-word.files) (map string_bytes (take c.loop-word.word-index c.args.names.now))
    c.loop-word.sources c.read_next.new.sources c.as_str-name.result.now so_far.same so_far.so_far next in
    let names = ap (λ n. map string_bytes (take c.loop-word.word-index c.args.names.now) ++ n ∷ []) c.as_str-name.ensures.value
    ∙ sym (map_more_at string_bytes c.args.names.now c.loop-word.word-index c.word-item.result c.loop-word-test.true c.word-item.is) in
    record {
      so_far = subst (λ ns. AreReadSoFar (g.F.Files.told c.args.files.now) ns c.read_next.new.sources) names one_more;
      count = ap length next.files ∙ length_push c.loop-word.sources.files next.source ∙ ap (λ n. n + 1) so_far.count;
      reads = c.in-Ok.ensures.steady ∙ so_far.reads;
      writes = c.read_next.ensures.unwritten ∙ so_far.writes;
      same = c.read_next.ensures.same ∙ so_far.same;
    }
