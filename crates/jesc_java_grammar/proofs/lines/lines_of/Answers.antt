use Rattle.std.proofs.Common.{◌∙◌}
use Rattle.jesc_java_grammar.proofs.LineStarts.{found_feed, found_other}
use Rattle.jesc_java_grammar.proofs.lines.lines_of.Goals as goal
use Rattle.jesc_java_grammar.proofs.lines.lines_of.Goals.{then-byte-eq10+in_ok-push-2, else-byte-eq10}

pub loop-i-preserved : goal.loop-i-preserved
loop-i-preserved c =
    elim c.if-byte-eq10.branch [
      | then-byte-eq10+in_ok-push-2 w ↦ found_feed c.args.text.now c.loop-i.lines c.if-byte-eq10.lines c.loop-i.i c.loop-i-test.true w.if-byte-eq10.true c.loop-i.invariant (w.lines-is ∙ w.in_ok-push-2.ensures.ok)
      | else-byte-eq10 w ↦ found_other c.args.text.now c.loop-i.lines c.if-byte-eq10.lines c.loop-i.i c.loop-i-test.true w.if-byte-eq10.false c.loop-i.invariant w.lines-is
    ]
