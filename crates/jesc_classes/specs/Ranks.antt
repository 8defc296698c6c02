-- Ranks of classes, which no supertype passes.
use Rattle.std.specs.Prelude.{◌≡◌, ℕ, ◌≤◌, ◌<◌, List, length, get_or}
use Rattle.std.specs.List.{Contains}
use Rattle.jesc_classes.specs.Order.{Graph, supers}

pub record AreRanks (graph : Graph) (ranks : List ℕ) : Type 0 where
  pub count : length ranks ≡ length graph
  pub above : (class above : ℕ) → class < length graph → Contains (supers graph class) above → get_or ranks above 0 ≤ get_or ranks class 0
