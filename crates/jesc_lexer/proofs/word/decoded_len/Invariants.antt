use Rattle.std.proofs.Common.{◌≡◌, ◌≤◌, ◌-◌, ◌+◌, length, drop}
use Rattle.std.specs.Str.{IsUtf8}
use Rattle.jesc_lexer.specs.Lexemes.{word_len}
use Rattle.jesc_lexer.proofs.word.decoded_len.Given as goal

abbrev pub invariant-loop-c : goal.invariant-loop-c
invariant-loop-c l = record {
  within : l.length ≤ length l.text;
  utf8 : IsUtf8 (drop l.length l.text);
  so_far : l.length + word_len (drop l.length l.text) ≡ word_len l.text;
}

abbrev pub decreases-loop-c : goal.decreases-loop-c
decreases-loop-c l = length l.text - l.length
