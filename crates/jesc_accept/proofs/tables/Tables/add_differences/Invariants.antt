use Rattle.jesc_accept.specs.States.{atoms_of}
use Rattle.jesc_accept.proofs.CongruenceLines.{Goes}
use Rattle.jesc_accept.proofs.tables.Tables.add_differences.Given as goal

abbrev pub invariant-loop-at : goal.invariant-loop-at
invariant-loop-at l = Goes (atoms_of l.self) l.xs l.ys l.at l.initial.lemma l.lemma
