use Rattle.std.proofs.Common.{◌≡◌, ◌-◌}
use Rattle.jesc_jml_grammar.specs.Reading.{turns}
use Rattle.jesc_jml_grammar.specs.Seen.{seen, IsKept}
use Rattle.jesc_jml_grammar.specs.ClauseSeen.{more_names}
use Rattle.jesc_jml_grammar.proofs.grammar.Grammar.more_names.Given as goal

abbrev pub invariant-loop-turn : goal.invariant-loop-turn
invariant-loop-turn g l = record {
  same : more_names turns l.fn.first (seen l.fn.cursor) ≡ more_names (l.turns - l._turn) l.words (seen l.cursor);
  kept : IsKept l.fn.cursor l.cursor;
  turns : l.turns ≡ turns;
}
