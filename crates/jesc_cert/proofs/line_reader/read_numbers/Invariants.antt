use Rattle.std.proofs.Common.{◌≡◌, ◌++◌, length, List, ℤ}
use Rattle.std.specs.Prelude.{All}
use Rattle.jesc_cert.specs.Texts.{numbers_text}
use Rattle.jesc_cert.specs.Inner.{IsWithin}
use Rattle.jesc_cert.proofs.NumberLines.{AreSome}
use Rattle.jesc_cert.proofs.line_reader.read_numbers.Given as goal

abbrev pub invariant-loop-rest : goal.invariant-loop-rest
invariant-loop-rest l = record {
  done : All IsWithin l.numbers;
  is : l.fn.bytes ≡ numbers_text l.numbers ++ l.rest;
  all : (ns : List ℤ) → All IsWithin ns → l.fn.bytes ≡ numbers_text ns → AreSome l.rest;
}

abbrev pub decreases-loop-rest : goal.decreases-loop-rest
decreases-loop-rest l = length l.rest
