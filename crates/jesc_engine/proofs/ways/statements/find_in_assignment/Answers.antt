use Rattle.std.proofs.Common.{List, subst}
use Rattle.jesc_engine.specs.declared.ways.atom.Atom.{Atom}
use Rattle.jesc_engine.specs.Ways.{no_outcome}
use Rattle.jesc_engine.specs.Walk.{IsSummed}
use Rattle.jesc_engine.proofs.Statements.{after_assignment}
use Rattle.jesc_engine.proofs.ways.statements.find_in_assignment.Goals as goal

pub returns-clause-after : goal.returns-clause-after
returns-clause-after c =
    let before = c.args.facts.now in
    let now = c.find_in_sum.new.facts in
    let value = c.args.value.now in
    let summed = subst (λ (slots : List Atom). IsSummed slots no_outcome before value c.in_ok-x.x now) c.as_slice.ensures.value c.in_ok-x.ensures.sum in
    after_assignment before value c.args.atoms.now.items c.args.slot c.in_ok-x.x now c.put_atom.new.atoms.items summed c.requires c.put_atom.ensures
