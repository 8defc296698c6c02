use Rattle.std.proofs.Common.{List, subst, sym}
use Rattle.std.specs.Prelude.{None}
use Rattle.jesc_first.specs.declared.check.Kind.TheVariants.{Assert as AssertKind}
use Rattle.jesc_first.specs.declared.tree.Stmt.{Stmt}
use Rattle.jesc_engine.specs.declared.ways.atom.Atom.{Atom}
use Rattle.jesc_engine.specs.Ways.{atom_in, no_outcome, condition_facts, condition_obligations, statement_facts, statement_atoms, statement_obligations}
use Rattle.jesc_engine.specs.Walk.{IsGrown, IsAfter, Extends}
use Rattle.jesc_engine.proofs.Statements.{after_assert}
use Rattle.jesc_engine.proofs.ways.statements.find_in_statement.Goals as goal

pub returns-in_ok-find_in_assert-in-Assert-clause-after : goal.returns-in_ok-find_in_assert-in-Assert-clause-after
returns-in_ok-find_in_assert-in-Assert-clause-after c =
    let before = c.args.facts.now in
    let now = c.find_in_assert.new.facts in
    let atoms = c.args.atoms.now.items in
    let condition = c.in-Assert.condition in
    let grown = subst (λ (slots : List Atom). IsGrown before (condition_facts (atom_in slots no_outcome) before condition) now) c.as_slice.ensures.value
    c.in_ok-find_in_assert-in-Assert.ensures.facts in
    subst (λ (statement : Stmt). IsAfter before (statement_facts atoms before statement) now (statement_atoms atoms before statement) atoms)
    (sym c.in-Assert.is) (after_assert before (condition_facts (atom_in atoms no_outcome) before condition) now atoms grown c.requires)

pub returns-in_ok-find_in_assert-in-Assert-clause-findings : goal.returns-in_ok-find_in_assert-in-Assert-clause-findings
returns-in_ok-find_in_assert-in-Assert-clause-findings c =
    let before = c.args.facts.now in
    let atoms = c.args.atoms.now.items in
    let old = c.args.findings.now in
    let findings = c.find_in_assert.new.findings in
    let found = subst (λ (slots : List Atom). Extends (condition_obligations (atom_in slots no_outcome) before AssertKind c.in-Assert.at None c.in-Assert.condition)
    old findings) c.as_slice.ensures.value c.in_ok-find_in_assert-in-Assert.ensures.findings in
    subst (λ (statement : Stmt). Extends (statement_obligations atoms before statement) old findings) (sym c.in-Assert.is) found
