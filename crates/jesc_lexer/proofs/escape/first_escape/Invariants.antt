use Rattle.std.proofs.Common.{◌≡◌, ◌<◌, ℕ}
use Rattle.jesc_lexer.specs.Lexed.{IsEscape}
use Rattle.jesc_lexer.proofs.Escapes.{is_even}
use Rattle.jesc_lexer.proofs.escape.first_escape.Given as goal

abbrev pub invariant-loop-at : goal.invariant-loop-at
invariant-loop-at l = record {
  even : l.even ≡ is_even l.bytes l.at;
  none : (i : ℕ) → i < l.at → ¬ (IsEscape l.bytes i);
}
