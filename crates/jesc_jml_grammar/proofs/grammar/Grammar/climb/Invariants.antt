use Rattle.std.proofs.Common.{◌≡◌, ◌+◌, ◌-◌, ◌≤◌}
use Rattle.jesc_jml_grammar.specs.Reading.{climb}
use Rattle.jesc_jml_grammar.specs.Nests.{parsed, rule}
use Rattle.jesc_jml_grammar.specs.Seen.{seen, IsKept}
use Rattle.jesc_jml_grammar.proofs.grammar.Grammar.climb.Given as goal

abbrev pub invariant-loop-turn : goal.invariant-loop-turn
invariant-loop-turn g l = record {
  same : rule climb l.fn.cursor.note l.self.room l.self.quantifiers l.least l.turns (parsed l.fn.first) (seen l.fn.cursor)
      ≡ rule climb l.fn.cursor.note l.self.room l.self.quantifiers l.least (l.turns - l._turn) (parsed l.left) (seen l.cursor);
  kept : IsKept l.fn.cursor l.cursor;
  within : l.left.depth ≤ l.self.room + 1;
}
