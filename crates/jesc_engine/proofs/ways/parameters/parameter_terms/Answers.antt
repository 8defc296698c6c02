use Rattle.jesc_engine.proofs.Parameters.{terms_step}
use Rattle.jesc_engine.proofs.ways.parameters.parameter_terms.Goals as goal

pub loop-slot-preserved : goal.loop-slot-preserved
loop-slot-preserved c =
    terms_step c.loop-slot.slot c.args.parameters.now c.loop-slot.terms.items c.push_atom.new.atoms.items c.loop-slot-test.true
    c.in_ok-push_atom.ensures c.loop-slot.invariant
