use Rattle.std.proofs.Common.{◌≡◌, take}
use Rattle.jesc_clauses.specs.Normals.{scaled}
use Rattle.jesc_clauses.proofs.normal.divided.Given as goal

abbrev pub invariant-loop-part : goal.invariant-loop-part
invariant-loop-part l = scaled l.divisor l.over ≡ take l.part-index l.form
