-- What labels mean in each class.
use Rattle.std.specs.Prelude.{◌≡◌, ℕ, ◌<◌, Option, Some, None, List, [], length, get_or}
use Rattle.std.specs.List.{All}
use Rattle.jesc_classes.specs.Named.{Named}
use Rattle.jesc_classes.specs.Order.{Graph}
use Rattle.jesc_lookup.specs.Lookup.{Found}
use Rattle.jesc_lookup.specs.Maps.{Map, at}
use Rattle.jesc_meanings.specs.Labels.{AreNamed, Key, found_in, is_labelled}
use Rattle.jesc_meanings.specs.Meanings.{first_that}

-- what a map has under a key, where there is a key
abbrev pub found_at : Option ℕ → Map → Option ℕ
found_at None m = None
found_at (Some key) m = at m key

-- the item of that label that the class has itself
abbrev pub own_labelled : List (Option Key) → List (List ℕ) → Key → ℕ → Option ℕ
own_labelled labels rows key class = first_that (λ i. is_labelled key (get_or labels i None)) (get_or rows class [])

-- each class has a row of items
pub record AreRows (graph : Graph) (labels : List (Option Key)) (rows : List (List ℕ)) : Type 0 where
  pub count : length rows ≡ length graph
  pub small : All (All (λ i. i < length labels)) rows

-- each class has a version, which tells what labels mean in it
pub record KnowsMembers (graph : Graph) (labels : List (Option Key)) (rows : List (List ℕ)) (names : List (Named ℕ)) (table : List (List (Option ℕ))) (versions : List Map) (of : List ℕ) : Type 0 where
  pub named : AreNamed names table
  pub count : length of ≡ length graph
  pub there : (class : ℕ) → get_or of class 0 < length versions
  pub each : (class : ℕ) → class < length graph → (key : Key) → Found graph (own_labelled labels rows key) class (found_at (found_in names table key) (get_or versions (get_or of class 0) []))
