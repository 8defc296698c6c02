-- Every class has its place in the order, behind its supertypes.
use Rattle.std.specs.Prelude.{◌≡◌, ℕ, ◌<◌, ◌^◌, List, length, get_or}
use Rattle.std.specs.List.{Contains}
use Rattle.jesc_classes.specs.Order.{Graph, supers, IsWhole, IsWithin}

pub record IsArranged (graph : Graph) (order : List ℕ) : Type 0 where
  pub within : IsWithin graph
  pub few : length graph < 2 ^ 32
  pub whole : IsWhole graph order
  pub count : length order ≡ length graph
  pub below : (i : ℕ) → i < length order → get_or order i 0 < length graph
  pub apart : (i j : ℕ) → i < j → j < length order → get_or order i 0 ≡ get_or order j 0 → ⊥
  -- a supertype comes first
  pub first : (i j : ℕ) → i < length order → j < length order → Contains (supers graph (get_or order i 0)) (get_or order j 0) → j < i
