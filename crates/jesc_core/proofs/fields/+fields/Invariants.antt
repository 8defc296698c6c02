use Rattle.std.proofs.Common.{◌≡◌, map, drop}
use Rattle.jesc_core.specs.Trees.{core_of, cores_of, core_view, step_view}
use Rattle.jesc_core.specs.Fields.{field_count, fields_of_cores}
use Rattle.jesc_core.proofs.fields.+fields.Given as goal

abbrev pub invariant-field_count-loop-k : goal.invariant-field_count-loop-k
invariant-field_count-loop-k l = l.count ≡ field_count (core_of (map step_view (drop l.k l.steps)))

abbrev pub invariant-of_cores-loop-k : goal.invariant-of_cores-loop-k
invariant-of_cores-loop-k l = l.count ≡ fields_of_cores (cores_of (map core_view (drop l.k l.cores)))
