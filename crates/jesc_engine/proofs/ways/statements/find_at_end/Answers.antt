use Rattle.jesc_engine.specs.Ways.{no_outcome}
use Rattle.jesc_engine.proofs.Sums.{scope_later}
use Rattle.jesc_engine.proofs.Parameters.{scope_with}
use Rattle.jesc_engine.proofs.Statements.{end_of_body}
use Rattle.jesc_engine.proofs.ways.statements.find_at_end.Goals as goal

pub find_in_clauses-requires : goal.find_in_clauses-requires
find_in_clauses-requires c =
    let facts = c.find_in_value.new.facts in
    let arguments = c.args.arguments.now in
    let grows = c.in_ok-outcome.ensures.facts.grows in
    scope_with facts.fresh arguments c.in_ok-outcome.outcome (scope_later c.args.facts.now.fresh facts.fresh arguments no_outcome grows c.requires.arguments)
    c.in_ok-outcome.ensures.atom.1

pub returns : goal.returns
returns c =
    end_of_body c.args.method.now c.args.arguments.now c.args.atoms.now c.args.facts.now c.in_ok-outcome.outcome c.find_in_value.new.facts
    c.args.findings.now c.find_in_value.new.findings c.find_in_clauses.new.findings
    c.in_ok-outcome.ensures.atom.0 c.in_ok-outcome.ensures.facts.same c.in_ok-outcome.ensures.findings c.in_ok-find_in_clauses.ensures
