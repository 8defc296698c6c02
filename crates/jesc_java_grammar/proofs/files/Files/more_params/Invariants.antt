use Rattle.std.proofs.Common.{◌≡◌, ◌-◌}
use Rattle.jesc_jml_grammar.specs.Reading.{turns}
use Rattle.jesc_jml_grammar.specs.Seen.{seen, IsKept}
use Rattle.jesc_java_grammar.specs.FileViews.{more_params}
use Rattle.jesc_java_grammar.proofs.files.Files.more_params.Given as goal

abbrev pub invariant-loop-turn : goal.invariant-loop-turn
invariant-loop-turn l = record {
  same : more_params l.self.room turns l.fn.first (seen l.fn.cursor) ≡ more_params l.self.room (l.turns - l._turn) l.params (seen l.cursor);
  kept : IsKept l.fn.cursor l.cursor;
  turns : l.turns ≡ turns;
}
