use Rattle.std.proofs.Common.{length, ◌-◌}
use Rattle.std.specs.Prelude.{All, map}
use Rattle.jesc_cert.specs.Texts.{IsLine, line_text}
use Rattle.jesc_cert.proofs.Blocks.{Takes}
use Rattle.jesc_cert.proofs.parse.read_lines.Given as goal

abbrev pub invariant-loop-at : goal.invariant-loop-at
invariant-loop-at l = record {
  takes : Takes l.bytes l.at (map line_text l.lines);
  all : All IsLine l.lines;
}

abbrev pub decreases-loop-at : goal.decreases-loop-at
decreases-loop-at l = length l.bytes - l.at
