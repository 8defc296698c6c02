use Rattle.std.proofs.Common.{◌≡◌, take, negsuc}
use Rattle.jesc_clauses.specs.Normals.{scaled}
use Rattle.jesc_accept.proofs.arithmetic.opposite.Given as goal

abbrev pub invariant-loop-part : goal.invariant-loop-part
invariant-loop-part l = l.form ≡ scaled (negsuc 0) (take l.part-index l.atom.form)
