use Rattle.std.proofs.Common.{◌≡◌, map, drop}
use Rattle.jesc_core.specs.Trees.{formula_view}
use Rattle.jesc_core.specs.Fields.{fields_of_formulas}
use Rattle.jesc_core.proofs.fields.of_formulas.Given as goal

abbrev pub invariant-loop-k : goal.invariant-loop-k
invariant-loop-k l = l.count ≡ fields_of_formulas (map formula_view (drop l.k l.formulas))
