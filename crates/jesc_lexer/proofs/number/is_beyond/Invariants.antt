use Rattle.jesc_lexer.proofs.Values.{Sums}
use Rattle.jesc_lexer.proofs.number.is_beyond.Given as goal

abbrev pub invariant-loop-byte : goal.invariant-loop-byte
invariant-loop-byte l = Sums l.limit l.value l.bytes l.byte-index
