use Rattle.std.proofs.Common.{length, drop, ◌-◌}
use Rattle.std.specs.Prelude.{All}
use Rattle.jesc_cert.specs.Texts.{IsBlock, blocks_lines}
use Rattle.jesc_cert.specs.Inner.{StopsBehind}
use Rattle.jesc_cert.proofs.Blocks.{Takes}
use Rattle.jesc_cert.proofs.parse.read_blocks.Given as goal

abbrev pub invariant-loop-at : goal.invariant-loop-at
invariant-loop-at l = record {
  takes : Takes l.bytes l.at (blocks_lines l.list);
  all : All IsBlock l.list;
  stops : StopsBehind l.list (drop l.at l.bytes);
}

abbrev pub decreases-loop-at : goal.decreases-loop-at
decreases-loop-at l = length l.bytes - l.at
