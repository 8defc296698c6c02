use Rattle.std.proofs.Common.{◌≡◌, reverse, length}
use Rattle.jesc_accept.specs.States.{beside}
use Rattle.jesc_accept.proofs.tree.Tree.close.Given as goal

abbrev pub invariant-loop-self : goal.invariant-loop-self
invariant-loop-self l = record {
  still : l.self.is_open ≡ l.initial.self.is_open;
  same : beside l.self.values.items (reverse l.self.trail.items) ≡ beside l.initial.self.values.items (reverse l.initial.self.trail.items);
}

abbrev pub decreases-loop-self : goal.decreases-loop-self
decreases-loop-self l = length l.self.trail.items
