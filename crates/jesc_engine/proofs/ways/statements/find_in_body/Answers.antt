use Rattle.std.proofs.Common.{List, [], rules, subst}
use Rattle.jesc_engine.specs.declared.ways.atom.Atom.{Atom}
use Rattle.jesc_engine.specs.Ways.{no_outcome, body_obligations}
use Rattle.jesc_engine.specs.Walk.{Extends}
use Rattle.jesc_engine.proofs.Sums.{scope_later}
use Rattle.jesc_engine.proofs.Statements.{statement_step, statements_end}
use Rattle.jesc_engine.proofs.ways.statements.find_in_body.Goals as goal

pub find_in_statement-requires : goal.find_in_statement-requires
find_in_statement-requires c = c.loop-statement.invariant.0

pub loop-statement-init : goal.loop-statement-init
loop-statement-init c = (c.requires.atoms, c.requires.arguments, λ final h. h)

pub loop-statement-preserved : goal.loop-statement-preserved
loop-statement-preserved c = (
  c.in_ok-find_in_statement.ensures.after.scope,
  scope_later c.loop-statement.facts.fresh c.find_in_statement.new.facts.fresh c.args.arguments.now no_outcome
      c.in_ok-find_in_statement.ensures.after.grows c.loop-statement.invariant.1,
  λ final h. c.loop-statement.invariant.2 final
      (statement_step c.args.method.now c.args.arguments.now c.as_slice-statement-items.result.now c.loop-statement.atoms.items c.loop-statement.facts
      c.loop-statement.findings c.loop-statement.statement-index c.statement-item.result c.find_in_statement.new.atoms.items c.find_in_statement.new.facts
      c.find_in_statement.new.findings c.loop-statement-test.true c.statement-item.is c.in_ok-find_in_statement.ensures.after
      c.in_ok-find_in_statement.ensures.findings final h),
)

pub returns : goal.returns
returns c =
    let method = c.args.method.now in
    let arguments = c.args.arguments.now in
    let atoms = c.loop-statement.atoms.items in
    let now = c.loop-statement.facts in
    let findings = c.loop-statement.findings in
    let final = c.find_at_end.new.findings in
    let at_end = subst (λ (slots : List Atom). Extends (body_obligations method arguments slots now []) findings final) c.as_slice.ensures.value
    c.in_ok-find_at_end.ensures in
    statements_end method arguments c.as_slice-statement-items.result.now c.args.atoms.now.items atoms c.args.facts.now now c.args.findings.now findings final
    c.loop-statement.statement-index c.as_slice-statement-items.ensures (search rules) c.loop-statement.invariant.2 at_end
