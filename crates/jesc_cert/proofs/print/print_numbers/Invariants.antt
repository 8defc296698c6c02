use Rattle.std.proofs.Common.{◌≡◌, ◌++◌, take}
use Rattle.jesc_cert.specs.Texts.{numbers_text}
use Rattle.jesc_cert.proofs.print.print_numbers.Given as goal

abbrev pub invariant-loop-number : goal.invariant-loop-number
invariant-loop-number l = l.into ≡ l.fn.into ++ numbers_text (take l.number-index l.numbers)
