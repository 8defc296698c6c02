use Rattle.std.proofs.Common.{◌≡◌, [], length, get_or, map, take}
use Rattle.jesc_names.specs.Program.{joined}
use Rattle.jesc_names.proofs.field_order.field_order.Given as goal

abbrev pub invariant-loop-class : goal.invariant-loop-class
invariant-loop-class l = record {
  numbers : l.numbers ≡ joined (map (λ class. get_or l.lists class []) (take l.class-index l.classes));
  counts : l.counts ≡ map (λ class. length (get_or l.lists class [])) (take l.class-index l.classes);
}
