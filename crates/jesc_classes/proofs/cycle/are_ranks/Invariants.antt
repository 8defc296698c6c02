use Rattle.std.proofs.Common.{◌<◌, ◌≤◌, ℕ, get_or}
use Rattle.std.specs.List.{All}
use Rattle.jesc_classes.specs.Order.{supers}
use Rattle.jesc_classes.proofs.cycle.are_ranks.Given as goal

abbrev pub invariant-loop-class : goal.invariant-loop-class
invariant-loop-class l = (c : ℕ) → c < l.class → All (λ above. get_or l.ranks above 0 ≤ get_or l.ranks c 0) (supers l.graph c)
