use Rattle.std.proofs.Common.{refl}
use Rattle.jesc_engine.proofs.Bounds.{few_duties}
use Rattle.jesc_engine.proofs.ClassLists.{program_more, stray_complaint}
use Rattle.jesc_engine.proofs.classes.read_program.Goals as goal

pub invariant_of-push : goal.invariant_of-push
invariant_of-push c =
    let source = c.source-item.result in
    record { few = few_duties c.loop-source.names source.tokens c.in-Ok.classes source.spans source.short c.in-Ok.ensures.accepted.0 }

pub returns-in-Err-clause-stopped : goal.returns-in-Err-clause-stopped
returns-in-Err-clause-stopped c = λ told reads reads' are.
    let so_far = c.loop-source.invariant in
    stray_complaint told reads reads' c.args.sources.now c.loop-source.source-index c.source-item.result c.loop-source.files c.loop-source.names c.in-Err.cause
    c.loop-source-test.true c.source-item.is so_far.sources so_far.classed so_far.names are c.in-Err.ensures.stray

pub loop-source-preserved : goal.loop-source-preserved
loop-source-preserved c =
    let so_far = c.loop-source.invariant in
    let accepted = c.in-Ok.ensures.accepted in
    let more = program_more c.args.sources.now c.loop-source.source-index c.source-item.result c.loop-source.files c.push.new.self _ c.loop-source.names c.classes_of.new.names
    c.loop-source-test.true c.source-item.is refl so_far.sources so_far.classed so_far.names accepted.0 accepted.1 c.in-Ok-push.ensures.ok in
    record { sources = more.0; classed = more.1; names = more.2 }
