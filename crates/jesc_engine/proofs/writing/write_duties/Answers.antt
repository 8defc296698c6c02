use Rattle.jesc_engine.specs.Report.{duty_lines}
use Rattle.jesc_engine.proofs.Gaining.{gains_at}
use Rattle.jesc_engine.proofs.writing.write_duties.Goals as goal

pub returns-in-Err-clause-gains : goal.returns-in-Err-clause-gains
returns-in-Err-clause-gains g c =
    gains_at (duty_lines c.args.source.now.name.now c.args.source.now.bytes.now) c.args.judgements.now c.loop-judgement.judgement-index c.judgement-item.result
    (g.O.Sink.taken c.args.out.now) (g.O.Sink.taken c.loop-judgement.out) (g.O.Sink.taken c.write_duty.new.out) c.in-Err.error
    c.loop-judgement-test.true c.judgement-item.is c.loop-judgement.invariant.gained c.in-Err.ensures.gains
