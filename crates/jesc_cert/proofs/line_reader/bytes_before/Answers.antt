use Rattle.std.proofs.Common.{arith}
use Rattle.jesc_cert.proofs.Pieces.{without_more, breaks_at}
use Rattle.jesc_cert.proofs.line_reader.bytes_before.Goals as goal

pub returns-then-bytes-i : goal.returns-then-bytes-i
returns-then-bytes-i c = record {
  within = omega (arith, c.loop-i-test.true);
  apart = c.loop-i.invariant;
  breaks = breaks_at c.args.byte c.args.bytes.now c.loop-i.i c.if-bytes-i.true c.loop-i-test.true;
}

pub loop-i-preserved : goal.loop-i-preserved
loop-i-preserved c = without_more c.args.byte c.args.bytes.now c.loop-i.i c.loop-i-test.true c.loop-i.invariant c.if-bytes-i.false
