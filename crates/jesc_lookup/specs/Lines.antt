-- The line of a class: itself, and then the lines of its supertypes in order, each class where it comes first.
use Rattle.std.specs.Prelude.{◌≡◌, ℕ, ◌<◌, nat_eq, List, [], ◌∷◌, ◌++◌, length, get_or, Option, Some, None, if◌then◌else◌}
use Rattle.std.specs.List.{list_any}
use Rattle.jesc_classes.specs.Order.{Graph, supers}

-- the first list, and then what only the second has
abbrev pub merged : List ℕ → List ℕ → List ℕ
merged line [] = line
merged line (x ∷ xs) = if list_any (nat_eq x) line then merged line xs else merged (line ++ x ∷ []) xs

mutual
  pub data IsLine (graph : Graph) : ℕ → List ℕ → Type 0 where
    line_of : (class : ℕ) (line : List ℕ) → AreMerged graph (class ∷ []) (supers graph class) line → IsLine graph class line

  -- the lines of these classes are added one after the other
  pub data AreMerged (graph : Graph) : List ℕ → List ℕ → List ℕ → Type 0 where
    no_more : (line : List ℕ) → AreMerged graph line [] line
    one_more : (line : List ℕ) (class : ℕ) (classes other whole : List ℕ) → IsLine graph class other → AreMerged graph (merged line other) classes whole → AreMerged graph line (class ∷ classes) whole

-- what a class's line has behind that of its first supertype
abbrev pub IsExtra : Graph → ℕ → List ℕ → Type 0
IsExtra graph class extra = by (supers graph class)
  where
    by : List ℕ → Type 0
    by [] = (extra ≡ []) × IsLine graph class (class ∷ [])
    by (first ∷ rest) = (line : List ℕ) → IsLine graph first line → IsLine graph class (class ∷ (line ++ extra))

pub record AreExtras (graph : Graph) (extras : List (List ℕ)) : Type 0 where
  pub count : length extras ≡ length graph
  pub each : (class : ℕ) → class < length graph → IsExtra graph class (get_or extras class [])

abbrev pub or_else : Option ℕ → Option ℕ → Option ℕ
or_else None other = other
or_else (Some found) other = Some found

-- what the first class of a line has that has one
abbrev pub first_in : (ℕ → Option ℕ) → List ℕ → Option ℕ
first_in own [] = None
first_in own (class ∷ line) = or_else (own class) (first_in own line)
