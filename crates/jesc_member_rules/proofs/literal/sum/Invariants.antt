use Rattle.jesc_lexer.proofs.Values.{Sums}
use Rattle.jesc_member_rules.proofs.literal.sum.Given as goal

abbrev pub invariant-loop-byte : goal.invariant-loop-byte
invariant-loop-byte l = Sums 9223372036854775808 l.value l.bytes l.byte-index
