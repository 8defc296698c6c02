use Rattle.std.proofs.Common.{◌≡◌, ◌-◌, length, drop}
use Rattle.jesc_lexer.specs.Pieces.{closing}
use Rattle.jesc_lexer.proofs.Closing.{moved}
use Rattle.jesc_lexer.proofs.scan.closing.Given as goal

abbrev pub invariant-loop-at : goal.invariant-loop-at
invariant-loop-at l = moved l.at (closing (drop l.at l.bytes)) ≡ closing l.bytes

abbrev pub decreases-loop-at : goal.decreases-loop-at
decreases-loop-at l = length l.bytes - l.at
