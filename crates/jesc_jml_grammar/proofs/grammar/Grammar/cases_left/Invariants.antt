use Rattle.std.proofs.Common.{◌≡◌, ◌-◌, map}
use Rattle.jesc_ast.specs.SpecTrees.{case_view}
use Rattle.jesc_jml_grammar.specs.Reading.{turns}
use Rattle.jesc_jml_grammar.specs.Seen.{seen, IsKept}
use Rattle.jesc_jml_grammar.specs.ClauseSeen.{cases_left, measured}
use Rattle.jesc_jml_grammar.proofs.grammar.Grammar.cases_left.Given as goal

abbrev pub invariant-loop-turn : goal.invariant-loop-turn
invariant-loop-turn g l = record {
  same : cases_left l.self.room l.self.quantifiers turns (measured (map case_view) l.fn.first) (seen l.fn.cursor)
      ≡ cases_left l.self.room l.self.quantifiers (l.turns - l._turn) (measured (map case_view) l.found) (seen l.cursor);
  kept : IsKept l.fn.cursor l.cursor;
  turns : l.turns ≡ turns;
}
