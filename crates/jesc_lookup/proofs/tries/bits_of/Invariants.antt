use Rattle.std.proofs.Common.{◌≡◌, ◌^◌}
use Rattle.jesc_lookup.proofs.tries.bits_of.Given as goal

abbrev pub invariant-loop-bits : goal.invariant-loop-bits
invariant-loop-bits l = l.reached ≡ 2 ^ l.bits
