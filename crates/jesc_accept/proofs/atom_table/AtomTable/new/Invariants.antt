use Rattle.std.proofs.Common.{take}
use Rattle.jesc_accept.specs.Atoms.{IsIndex}
use Rattle.jesc_accept.proofs.atom_table.AtomTable.new.Given as goal

abbrev pub invariant-loop-number : goal.invariant-loop-number
invariant-loop-number l = IsIndex (take l.number l.own) l.first.entries
