use Rattle.std.proofs.Common.{◌≡◌, ◌≤◌, ◌-◌, length, drop, []}
use Rattle.std.specs.Str.{IsUtf8}
use Rattle.jesc_lexer.specs.Reading.{code_tokens}
use Rattle.jesc_lexer.specs.Inner.{AreBefore}
use Rattle.jesc_lexer.proofs.reading.read_code.Given as goal

abbrev pub invariant-loop-at : goal.invariant-loop-at
invariant-loop-at l = record {
  within : l.at ≤ length l.text;
  utf8 : IsUtf8 (drop l.at l.text);
  short : length l.text ≤ 1048576;
  before : AreBefore l.text l.at l.tokens;
  so_far : code_tokens l.text l.file l.text 0 0 [] ≡ code_tokens l.text l.file (drop l.at l.text) 0 l.at l.tokens;
}

abbrev pub decreases-loop-at : goal.decreases-loop-at
decreases-loop-at l = length l.text - l.at
