use Rattle.std.proofs.Common.{◌∙◌}
use Rattle.jesc_engine.proofs.LineStarts.{starts_grown, starts_kept}
use Rattle.jesc_engine.proofs.report.source.line_starts.Goals as goal
use Rattle.jesc_engine.proofs.report.source.line_starts.Goals.{then-byte-eq10+in_ok-push-2, else-byte-eq10}

pub loop-i-preserved : goal.loop-i-preserved
loop-i-preserved c =
    elim c.if-byte-eq10.branch [
      | then-byte-eq10+in_ok-push-2 w ↦ starts_grown c.args.bytes.now c.loop-i.starts c.if-byte-eq10.starts c.loop-i.i c.loop-i-test.true w.if-byte-eq10.true c.loop-i.invariant (w.starts-is ∙ w.in_ok-push-2.ensures.ok)
      | else-byte-eq10 w ↦ starts_kept c.args.bytes.now c.loop-i.starts c.if-byte-eq10.starts c.loop-i.i c.loop-i-test.true w.if-byte-eq10.false c.loop-i.invariant w.starts-is
    ]
