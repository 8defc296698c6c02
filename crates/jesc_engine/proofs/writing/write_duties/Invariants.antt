use Rattle.std.proofs.Common.{◌≡◌, take}
use Rattle.std.specs.List.{flat_map}
use Rattle.jesc_engine.specs.Report.{duty_lines}
use Rattle.jesc_engine.specs.Ends.{GainsAll}
use Rattle.jesc_engine.proofs.writing.write_duties.Given as goal

abbrev pub invariant-loop-judgement : goal.invariant-loop-judgement
invariant-loop-judgement g l = record {
  gained : GainsAll (g.O.Sink.taken l.fn.out) (g.O.Sink.taken l.out) (flat_map (duty_lines l.source.name.now l.source.bytes.now) (take l.judgement-index l.judgements));
  steady : g.O.Sink.faults l.out ≡ g.O.Sink.faults l.fn.out;
}
