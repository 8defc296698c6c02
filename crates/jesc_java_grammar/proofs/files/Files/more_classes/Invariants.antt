use Rattle.std.proofs.Common.{◌≡◌, ◌-◌, map}
use Rattle.jesc_ast.specs.FileTrees.{class_view}
use Rattle.jesc_jml_grammar.specs.Reading.{turns}
use Rattle.jesc_jml_grammar.specs.Seen.{seen, IsKept}
use Rattle.jesc_jml_grammar.specs.ClauseSeen.{measured}
use Rattle.jesc_java_grammar.specs.ClassViews.{more_classes}
use Rattle.jesc_java_grammar.proofs.files.Files.more_classes.Given as goal

abbrev pub invariant-loop-turn : goal.invariant-loop-turn
invariant-loop-turn l = record {
  same : more_classes l.self.room turns (measured (map class_view) l.fn.first) (seen l.fn.cursor)
      ≡ more_classes l.self.room (l.turns - l._turn) (measured (map class_view) l.found) (seen l.cursor);
  kept : IsKept l.fn.cursor l.cursor;
  turns : l.turns ≡ turns;
}
