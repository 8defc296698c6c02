use Rattle.std.proofs.Common.{take}
use Rattle.jesc_cert.specs.Inner.{Without}
use Rattle.jesc_cert.proofs.line_reader.bytes_before.Given as goal

abbrev pub invariant-loop-i : goal.invariant-loop-i
invariant-loop-i l = Without l.byte (take l.i l.bytes)
