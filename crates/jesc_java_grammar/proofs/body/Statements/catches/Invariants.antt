use Rattle.std.proofs.Common.{◌≡◌, ◌-◌, ◌≤◌}
use Rattle.std.specs.Prelude.{map}
use Rattle.jesc_jml_grammar.specs.Reading.{turns}
use Rattle.jesc_jml_grammar.specs.Seen.{seen, IsKept}
use Rattle.jesc_jml_grammar.specs.ClauseSeen.{measured}
use Rattle.jesc_java_grammar.specs.StatementSeen.{catches_left}
use Rattle.jesc_ast.specs.Trees.{catch_view}
use Rattle.jesc_java_grammar.proofs.body.Statements.catches.Given as goal

abbrev pub invariant-loop-turn : goal.invariant-loop-turn
invariant-loop-turn g l = record {
  same : catches_left l.self.room turns (measured (map catch_view) l.fn.first) (seen l.fn.cursor)
      ≡ catches_left l.self.room (l.turns - l._turn) (measured (map catch_view) l.found) (seen l.cursor);
  kept : IsKept l.fn.cursor l.cursor;
  turns : l.turns ≡ turns;
  within : l.found.depth ≤ l.self.room;
}
