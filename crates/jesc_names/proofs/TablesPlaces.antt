-- The places of numbers, filled one after another.
use Rattle.std.proofs.Common.{◌≡◌, ℕ, ◌<◌, ◌≤◌, List, length, get_or}

-- the first numbers of the order have their places
pub record AreFilled (order ids : List ℕ) (n id : ℕ) : Type 0 where
  pub count : length ids ≡ n
  pub small : id ≤ length order
  pub filled : (k : ℕ) → k < id → get_or ids (get_or order k 0) 0 ≡ k
