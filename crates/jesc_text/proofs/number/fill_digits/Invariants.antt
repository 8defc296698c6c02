use Rattle.std.proofs.Common.{◌≡◌, ◌≤◌, ◌<◌, ◌^◌, ◌++◌, length, drop}
use Rattle.std.specs.Fmt.{decimal}
use Rattle.jesc_text.proofs.number.fill_digits.Given as goal

abbrev pub invariant-loop-rest : goal.invariant-loop-rest
invariant-loop-rest l = record {
  room : length (decimal l.rest) < l.first;
  within : l.first ≤ 40;
  fits : l.rest < 2 ^ 128;
  written : decimal l.rest ++ drop l.first l.buffer ≡ decimal l.fn.n;
}

abbrev pub decreases-loop-rest : goal.decreases-loop-rest
decreases-loop-rest l = l.rest
