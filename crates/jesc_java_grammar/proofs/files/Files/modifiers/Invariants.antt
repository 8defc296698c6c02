use Rattle.std.proofs.Common.{◌≡◌, ◌-◌}
use Rattle.jesc_jml_grammar.specs.Reading.{turns}
use Rattle.jesc_jml_grammar.specs.Seen.{seen, IsKept}
use Rattle.jesc_java_grammar.specs.FileViews.{more_modifiers}
use Rattle.jesc_java_grammar.proofs.files.Files.modifiers.Given as goal

abbrev pub invariant-loop-turn : goal.invariant-loop-turn
invariant-loop-turn l = record {
  same : more_modifiers l.self.room turns l.fn.words (seen l.fn.cursor) ≡ more_modifiers l.self.room (l.turns - l._turn) l.found (seen l.cursor);
  kept : IsKept l.fn.cursor l.cursor;
  turns : l.turns ≡ turns;
}
