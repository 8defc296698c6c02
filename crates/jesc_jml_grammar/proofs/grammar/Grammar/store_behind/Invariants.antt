use Rattle.std.proofs.Common.{◌≡◌, ◌-◌}
use Rattle.jesc_jml_grammar.specs.Reading.{turns}
use Rattle.jesc_jml_grammar.specs.Seen.{seen, IsKept}
use Rattle.jesc_jml_grammar.specs.ClauseSeen.{stores_left, path_of, IsWithin}
use Rattle.jesc_jml_grammar.proofs.grammar.Grammar.store_behind.Given as goal

abbrev pub invariant-loop-turn : goal.invariant-loop-turn
invariant-loop-turn g l = record {
  same : stores_left l.self.room l.self.quantifiers turns (path_of l.fn.first) (seen l.fn.cursor)
      ≡ stores_left l.self.room l.self.quantifiers (l.turns - l._turn) (path_of l.path) (seen l.cursor);
  kept : IsKept l.fn.cursor l.cursor;
  turns : l.turns ≡ turns;
  within : IsWithin l.self.room l.path;
}
