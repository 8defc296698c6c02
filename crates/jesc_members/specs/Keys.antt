-- Keys: an item is known by the number of the first item that has the same label.
use Rattle.std.specs.Prelude.{◌≡◌, ℕ, ◌+◌, ◌<◌, nat_eq, bytes_eq, Bool, Option, Some, None, List, [], ◌∷◌, ◌++◌, length, get_or, if◌then◌else◌}
use Rattle.jesc_classes.specs.Named.{Named, find}
use Rattle.jesc_classes.specs.Order.{Graph}
use Rattle.jesc_members.specs.Fields.{FieldOf, first_that, is_field_named}
use Rattle.jesc_lookup.specs.Lookup.{Found}
use Rattle.jesc_lookup.specs.Maps.{Map, at}

-- the number of the first label that is the same
abbrev pub first_equal : {L : Type 0} → (L → L → Bool) → ℕ → L → List L → Option ℕ
first_equal same n label [] = None
first_equal same n label (x ∷ xs) = if same label x then Some n else first_equal same (n + 1) label xs

-- of each item the number of the first one with its label
pub record HasKeys (L : Type 0) (same : L → L → Bool) (labels : List L) (keys : List ℕ) : Type 0 where
  pub count : length keys ≡ length labels
  pub each : (i : ℕ) (d : L) → i < length labels → first_equal same 0 (get_or labels i d) labels ≡ Some (get_or keys i 0)

-- the table has of each name the first of these
abbrev pub HasNames : List (Named ℕ) → List (List ℕ) → Type 0
HasNames table names = (name : List ℕ) → find name table ≡ first_equal bytes_eq 0 name names

-- the table takes up the next name, whose key is that number
pub record TakesName (table : List (Named ℕ)) (name : List ℕ) (number : ℕ) (new : List (Named ℕ)) (key : ℕ) : Type 0 where
  pub named : (names : List (List ℕ)) → number ≡ length names → HasNames table names → HasNames new (names ++ name ∷ [])
  pub found : find name new ≡ Some key

-- the numbers of a class's items
abbrev pub numbers_of : ℕ → ℕ → List ℕ → List ℕ
numbers_of class n [] = []
numbers_of class n (owner ∷ owners) = if nat_eq class owner then n ∷ numbers_of class (n + 1) owners else numbers_of class (n + 1) owners

pub record AreRows (classes : ℕ) (owners : List ℕ) (rows : List (List ℕ)) : Type 0 where
  pub count : length rows ≡ classes
  pub each : (class : ℕ) → class < classes → get_or rows class [] ≡ numbers_of class 0 owners

-- what a map has under a key, where there is a key
abbrev pub found_at : Option ℕ → Map → Option ℕ
found_at None m = None
found_at (Some key) m = at m key

-- each class has a version, which tells what names of these fields mean in it
pub record KnowsFields (graph : Graph) (fields : List FieldOf) (names : List (Named ℕ)) (versions : List Map) (of : List ℕ) : Type 0 where
  pub count : length of ≡ length graph
  pub there : (class : ℕ) → get_or of class 0 < length versions
  pub each : (class : ℕ) → class < length graph → (name : List ℕ) → Found graph (λ c. first_that (is_field_named name c) 0 fields) class (found_at (find name names) (get_or versions (get_or of class 0) []))
