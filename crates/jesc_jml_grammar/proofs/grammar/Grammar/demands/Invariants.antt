use Rattle.std.proofs.Common.{◌≡◌, ◌-◌, map}
use Rattle.jesc_ast.specs.Trees.{clause_view}
use Rattle.jesc_jml_grammar.specs.Reading.{turns}
use Rattle.jesc_jml_grammar.specs.Seen.{seen, IsKept}
use Rattle.jesc_jml_grammar.specs.ClauseFound.{none_behind}
use Rattle.jesc_jml_grammar.specs.ClauseSeen.{more_demands, ended}
use Rattle.jesc_jml_grammar.proofs.grammar.Grammar.demands.Given as goal

abbrev pub invariant-loop-turn : goal.invariant-loop-turn
invariant-loop-turn g l = record {
  same : more_demands l.self.room l.self.quantifiers turns (none_behind l.fn.last) (seen l.fn.cursor)
      ≡ more_demands l.self.room l.self.quantifiers (l.turns - l._turn) (ended (map clause_view) l.found) (seen l.cursor);
  kept : IsKept l.fn.cursor l.cursor;
  turns : l.turns ≡ turns;
}
