use Rattle.std.proofs.Common.{rules}
use Rattle.jesc_engine.proofs.Sums.{scope_later}
use Rattle.jesc_engine.proofs.Statements.{clause_step, clauses_end}
use Rattle.jesc_engine.proofs.ways.statements.find_in_clauses.Goals as goal

pub find_in_clause-requires : goal.find_in_clause-requires
find_in_clause-requires c = c.loop-clause.invariant.0

pub loop-clause-init : goal.loop-clause-init
loop-clause-init c = (c.requires, λ final h. h)

pub loop-clause-preserved : goal.loop-clause-preserved
loop-clause-preserved c = (
  scope_later c.loop-clause.facts.fresh c.find_in_clause.new.facts.fresh c.args.arguments.now c.args.outcome c.in_ok-find_in_clause.ensures.facts.grows
      c.loop-clause.invariant.0,
  λ final h. c.loop-clause.invariant.1 final
      (clause_step c.args.arguments.now c.args.outcome c.args.exit c.as_slice-clause-items.result.now c.loop-clause.facts c.loop-clause.findings
      c.loop-clause.clause-index c.clause-item.result c.find_in_clause.new.facts c.find_in_clause.new.findings c.loop-clause-test.true c.clause-item.is
      c.in_ok-find_in_clause.ensures.facts c.in_ok-find_in_clause.ensures.findings final h),
)

pub returns : goal.returns
returns c =
    clauses_end c.args.arguments.now c.args.outcome c.args.exit c.as_slice-clause-items.result.now c.args.promises.now c.args.facts.now c.loop-clause.facts
    c.args.findings.now c.loop-clause.findings c.loop-clause.clause-index c.as_slice-clause-items.ensures (search rules) c.loop-clause.invariant.1
