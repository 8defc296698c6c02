use Rattle.std.proofs.Common.{length, take}
use Rattle.jesc_lookup.specs.Layers.{Steps, own_keyed}
use Rattle.jesc_lookup.specs.Lines.{or_else, first_in}
use Rattle.jesc_lookup.proofs.layers.add_extra.Given as goal

abbrev pub invariant-loop-class : goal.invariant-loop-class
invariant-loop-class l = Steps (length l.keys) l.fn.versions l.fn.version l.versions l.version (λ key old. or_else old (first_in (own_keyed l.keys l.rows key) (take l.class-index l.classes)))
