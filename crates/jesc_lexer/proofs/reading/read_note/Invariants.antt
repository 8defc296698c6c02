use Rattle.std.proofs.Common.{◌≡◌, ◌≤◌, ◌-◌, ◌+◌, length, drop}
use Rattle.std.specs.Str.{IsUtf8}
use Rattle.jesc_lexer.specs.Reading.{note_tokens}
use Rattle.jesc_lexer.specs.Inner.{StandsAt, AreBefore}
use Rattle.jesc_lexer.proofs.reading.read_note.Given as goal

abbrev pub invariant-loop-at : goal.invariant-loop-at
invariant-loop-at l = record {
  within : l.at ≤ length l.inside;
  utf8 : IsUtf8 (drop l.at l.inside);
  room : l.start + length l.inside ≤ length l.text;
  here : StandsAt l.text l.start l.inside;
  short : length l.text ≤ 1048576;
  before : AreBefore l.text (l.start + l.at) l.tokens;
  so_far : note_tokens l.text l.file l.block l.inside 0 l.start l.fn.tokens ≡ note_tokens l.text l.file l.block (drop l.at l.inside) 0 (l.start + l.at) l.tokens;
}

abbrev pub decreases-loop-at : goal.decreases-loop-at
decreases-loop-at l = length l.inside - l.at
