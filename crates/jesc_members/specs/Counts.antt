-- Keys of methods: a method is known by the number of the first one of its name and number of parameters.
use Rattle.std.specs.Prelude.{◌≡◌, ℕ, ◌<◌, ◌≤◌, nat_eq, bytes_eq, ◌&&◌, Bool, Option, Some, None, List, [], ◌∷◌, length, map, get_or}
use Rattle.std.specs.List.{All}
use Rattle.jesc_classes.specs.Named.{Named, find}
use Rattle.jesc_classes.specs.Order.{Graph}
use Rattle.jesc_members.specs.Fields.{first_that}
use Rattle.jesc_lookup.specs.Lines.{or_else}
use Rattle.jesc_lookup.specs.Lookup.{Found}
use Rattle.jesc_lookup.specs.Maps.{Map}
use Rattle.jesc_members.specs.Methods.{MethodOf, is_method_named}
use Rattle.jesc_members.specs.Keys.{first_equal, found_at}
use Rattle.jesc_lookup.specs.Layers.{first_keyed}

-- a name and a number of parameters
abbrev pub Label : Type 0
Label = List ℕ × ℕ

abbrev pub alike : Label → Label → Bool
alike a b = bytes_eq a.0 b.0 && nat_eq a.1 b.1

-- the key of that number of parameters among those of a name
abbrev pub found_in : List ℕ → List (List ℕ) → Option ℕ → ℕ → Option ℕ
found_in counts rows None count = None
found_in counts rows (Some name) count = first_keyed counts count (get_or rows name [])

-- of the first method of each name, the keys of that name
pub record AreCounted (counts : List ℕ) (size : ℕ) (labels : List Label) (rows : List (List ℕ)) : Type 0 where
  pub count : length rows ≡ size
  pub small : All (All (λ i. i < length counts)) rows
  pub rest : (j : ℕ) → length labels ≤ j → get_or rows j [] ≡ []
  pub each : (name : List ℕ) (count : ℕ) → found_in counts rows (first_equal bytes_eq 0 name (map (λ l. l.0) labels)) count ≡ first_equal alike 0 (name, count) labels

-- the rows take up the next method, of that name
pub record TakesCount (counts : List ℕ) (rows : List (List ℕ)) (name item : ℕ) (new : List (List ℕ)) (key : ℕ) : Type 0 where
  pub count : length new ≡ length rows
  pub small : All (All (λ i. i < length counts)) new
  pub other : (j : ℕ) → (j ≡ name → ⊥) → get_or new j [] ≡ get_or rows j []
  pub each : (k : ℕ) → first_keyed counts k (get_or new name []) ≡ or_else (first_keyed counts k (get_or rows name [])) (first_keyed counts k (item ∷ []))
  pub found : first_keyed counts (get_or counts item 0) (get_or new name []) ≡ Some key

-- each class has a version, which tells what names of these methods mean in it
pub record KnowsMethods (graph : Graph) (methods : List MethodOf) (names : List (Named ℕ)) (rows : List (List ℕ)) (counts : List ℕ) (versions : List Map) (of : List ℕ) : Type 0 where
  pub count : length of ≡ length graph
  pub there : (class : ℕ) → get_or of class 0 < length versions
  pub names_small : (name : List ℕ) (row : ℕ) → find name names ≡ Some row → row < length rows
  pub rows_small : All (All (λ i. i < length counts)) rows
  pub each : (class : ℕ) → class < length graph → (name : List ℕ) (count : ℕ) → Found graph (λ c. first_that (is_method_named name count c) 0 methods) class (found_at (found_in counts rows (find name names) count) (get_or versions (get_or of class 0) []))
