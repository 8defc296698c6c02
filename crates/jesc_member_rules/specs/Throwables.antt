-- Which classes may be thrown.
use Rattle.std.specs.Prelude.{◌≡◌, ◌↔◌, ℕ, ◌<◌, Bool, true, false, List, length, get_or}
use Rattle.jesc_classes.specs.Order.{Graph, Above}
use Rattle.std.specs.Prelude.{◌⊎◌}

-- of each class by number, whether it is Throwable or below it
pub record AreThrowables (graph : Graph) (are : List Bool) : Type 0 where
  pub count : length are ≡ length graph
  pub each : (class : ℕ) → class < length graph → (get_or are class false ≡ true) ↔ ((class ≡ 1) ⊎ Above graph class 1)
