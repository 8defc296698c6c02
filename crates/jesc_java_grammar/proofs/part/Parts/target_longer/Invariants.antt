use Rattle.std.proofs.Common.{◌≡◌, ◌-◌, ◌≤◌}
use Rattle.jesc_jml_grammar.specs.Nests.{parsed}
use Rattle.jesc_jml_grammar.specs.Seen.{seen, IsKept}
use Rattle.jesc_java_grammar.specs.StatementReading.{target_longer}
use Rattle.jesc_java_grammar.specs.Views.{part}
use Rattle.jesc_java_grammar.proofs.part.Parts.target_longer.Given as goal

abbrev pub invariant-loop-turn : goal.invariant-loop-turn
invariant-loop-turn l = record {
  same : part target_longer l.self.room l.fn.cursor.note l.self.room (parsed l.fn.first) (seen l.fn.cursor)
      ≡ part target_longer l.self.room l.fn.cursor.note (l.self.room - l._turn) (parsed l.left) (seen l.cursor);
  kept : IsKept l.fn.cursor l.cursor;
  within : l.left.depth ≤ l.self.room;
}
