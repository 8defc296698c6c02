use Rattle.std.proofs.Common.{◌≡◌, ◌-◌, ◌≤◌}
use Rattle.jesc_jml_grammar.specs.Reading.{more_arguments, turns}
use Rattle.jesc_jml_grammar.specs.Nests.{listed, rule}
use Rattle.jesc_jml_grammar.specs.Seen.{seen, IsKept}
use Rattle.jesc_jml_grammar.proofs.grammar.Grammar.more_arguments.Given as goal

abbrev pub invariant-loop-turn : goal.invariant-loop-turn
invariant-loop-turn g l = record {
  same : rule more_arguments l.fn.cursor.note l.self.room l.self.quantifiers turns (listed l.fn.first) (seen l.fn.cursor)
      ≡ rule more_arguments l.fn.cursor.note l.self.room l.self.quantifiers (l.turns - l._turn) (listed l.found) (seen l.cursor);
  kept : IsKept l.fn.cursor l.cursor;
  turns : l.turns ≡ turns;
  within : l.found.depth ≤ l.self.room;
}
