use Rattle.std.proofs.Common.{length, take}
use Rattle.jesc_lookup.specs.Layers.{Steps, first_keyed}
use Rattle.jesc_lookup.specs.Lines.{or_else}
use Rattle.jesc_lookup.proofs.layers.add_missing.Given as goal

abbrev pub invariant-loop-item : goal.invariant-loop-item
invariant-loop-item l = Steps (length l.keys) l.fn.versions l.fn.version l.versions l.version (λ key old. or_else old (first_keyed l.keys key (take l.item-index l.row)))
