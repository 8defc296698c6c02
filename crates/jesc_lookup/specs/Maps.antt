-- Maps from the numbers below a size to numbers.
use Rattle.std.specs.Prelude.{ℕ, zero, suc, Option, Some, None, List, [], ◌∷◌, get_or}

abbrev pub Map : Type 0
Map = List (Option ℕ)

-- what the key has; a key beyond the size has nothing
abbrev pub at : Map → ℕ → Option ℕ
at m key = get_or m key None

-- the map with that value at the key
abbrev pub with_at : Map → ℕ → ℕ → Map
with_at [] key value = []
with_at (x ∷ xs) zero value = Some value ∷ xs
with_at (x ∷ xs) (suc key) value = x ∷ with_at xs key value
