use Rattle.std.proofs.Common.{length, drop, ◌≤◌}
use Rattle.jesc_lookup.specs.Layers.{Steps, first_keyed}
use Rattle.jesc_lookup.specs.Lines.{or_else}
use Rattle.jesc_lookup.proofs.layers.put_own.Given as goal

abbrev pub invariant-loop-left : goal.invariant-loop-left
invariant-loop-left l = (l.left ≤ length l.row) × Steps (length l.keys) l.fn.versions l.fn.version l.versions l.version (λ key old. or_else (first_keyed l.keys key (drop l.left l.row)) old)

abbrev pub decreases-loop-left : goal.decreases-loop-left
decreases-loop-left l = l.left
