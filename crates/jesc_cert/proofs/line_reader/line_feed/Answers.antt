use Rattle.jesc_cert.proofs.Pieces.{feed_is}
use Rattle.jesc_cert.proofs.line_reader.line_feed.Goals as goal

pub returns : goal.returns
returns c = feed_is c.args.bytes.now c.bytes_before-count.result c.bytes_before-count.ensures c.if-count-bytes.false
