use Rattle.std.proofs.Common.{take}
use Rattle.jesc_accept.specs.Rows.{HaveRows}
use Rattle.jesc_accept.specs.States.{atoms_of}
use Rattle.jesc_accept.proofs.tables.Tables.rows_of.Given as goal

abbrev pub invariant-loop-literal : goal.invariant-loop-literal
invariant-loop-literal l = HaveRows (atoms_of l.self) (take l.literal-index l.literals) l.rows
