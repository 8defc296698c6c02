use Rattle.std.proofs.Common.{ap, ◌∙◌}
use Rattle.jesc_engine.specs.Ways.{Facts, no_outcome}
use Rattle.jesc_engine.proofs.Sums.{scope_later}
use Rattle.jesc_engine.proofs.Parameters.{parameters_scope}
use Rattle.jesc_engine.proofs.Method.{found}
use Rattle.jesc_engine.proofs.ways.find.Goals as goal

pub assume_all-requires : goal.assume_all-requires
assume_all-requires c =
    parameters_scope c.as_slice-parameters.result.now c.in_ok-facts.facts.fresh c.as_slice.result.now
    (ap (λ (f : Facts). f.fresh) c.in_ok-facts.ensures) (c.as_slice.ensures.value ∙ c.in_ok-arguments.ensures)

pub find_in_body-requires-clause-atoms : goal.find_in_body-requires-clause-atoms
find_in_body-requires-clause-atoms c =
    scope_later c.in_ok-facts.facts.fresh c.assume_all.new.facts.fresh c.in_ok-atoms.atoms.items no_outcome c.in_ok-assume_all.ensures.grows
    (parameters_scope c.as_slice-parameters.result.now c.in_ok-facts.facts.fresh c.in_ok-atoms.atoms.items
    (ap (λ (f : Facts). f.fresh) c.in_ok-facts.ensures) c.in_ok-atoms.ensures)

pub find_in_body-requires-clause-arguments : goal.find_in_body-requires-clause-arguments
find_in_body-requires-clause-arguments c =
    scope_later c.in_ok-facts.facts.fresh c.assume_all.new.facts.fresh c.as_slice-2.result.now no_outcome c.in_ok-assume_all.ensures.grows
    (parameters_scope c.as_slice-parameters.result.now c.in_ok-facts.facts.fresh c.as_slice-2.result.now
    (ap (λ (f : Facts). f.fresh) c.in_ok-facts.ensures) (c.as_slice-2.ensures.value ∙ c.in_ok-arguments.ensures))

pub returns : goal.returns
returns c =
    found c.args.method.now c.as_slice-parameters.result.now c.as_slice.result.now c.as_slice-2.result.now c.in_ok-atoms.atoms.items
    c.in_ok-facts.facts c.assume_all.new.facts c.new-findings.result c.find_in_body.new.findings
    c.as_slice-parameters.ensures (c.as_slice.ensures.value ∙ c.in_ok-arguments.ensures) (c.as_slice-2.ensures.value ∙ c.in_ok-arguments.ensures)
    c.in_ok-atoms.ensures c.in_ok-facts.ensures c.in_ok-assume_all.ensures.same c.new-findings.ensures c.in_ok-find_in_body.ensures
