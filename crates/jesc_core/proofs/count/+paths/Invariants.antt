use Rattle.std.proofs.Common.{◌≡◌, map, drop}
use Rattle.jesc_core.specs.Trees.{core_of, cores_of, core_view, step_view}
use Rattle.jesc_core.specs.Counts.{count_core, count_ways, left_of}
use Rattle.jesc_core.proofs.count.+paths.Given as goal

abbrev pub invariant-paths_of_ways-loop-k : goal.invariant-paths_of_ways-loop-k
invariant-paths_of_ways-loop-k l = l.count ≡ count_ways (cores_of (map core_view (drop l.k l.cores))) l.after (left_of l.blocks)

abbrev pub invariant-paths_through-loop-k : goal.invariant-paths_through-loop-k
invariant-paths_through-loop-k l = l.count ≡ count_core (core_of (map step_view (drop l.k l.steps))) l.after (left_of l.blocks)
