-- Versions of a map from keys to items that has of each key the first item in the line of a class.
use Rattle.std.specs.Prelude.{◌≡◌, ℕ, ◌<◌, ◌≤◌, nat_eq, Option, Some, None, List, [], ◌∷◌, length, get_or, set, if◌then◌else◌}
use Rattle.std.specs.List.{All}
use Rattle.jesc_classes.specs.Order.{Graph, supers}
use Rattle.jesc_lookup.specs.Lines.{IsLine, first_in, or_else}
use Rattle.jesc_lookup.specs.Maps.{Map, at}

-- the first of these items that has the key
abbrev pub first_keyed : List ℕ → ℕ → List ℕ → Option ℕ
first_keyed keys key [] = None
first_keyed keys key (i ∷ is) = if nat_eq key (get_or keys i 0) then Some i else first_keyed keys key is

-- the first item of the key that the class has itself
abbrev pub own_keyed : List ℕ → List (List ℕ) → ℕ → ℕ → Option ℕ
own_keyed keys rows key class = first_keyed keys key (get_or rows class [])

-- there are rows for so many classes, and their items and the keys are small
pub record AreItems (classes : ℕ) (keys : List ℕ) (rows : List (List ℕ)) : Type 0 where
  pub count : length rows ≡ classes
  pub each : All (All (λ i. i < length keys)) rows
  pub small : All (λ key. key < length keys) keys

abbrev pub AreSized : ℕ → List Map → Type 0
AreSized size versions = All (λ m. size ≤ length m) versions

-- there are more versions, of which that one is made from an old one, with another value of each key
pub record Steps (size : ℕ) (old : List Map) (from : ℕ) (new : List Map) (to : ℕ) (change : ℕ → Option ℕ → Option ℕ) : Type 0 where
  pub sized : AreSized size new
  pub more : length old ≤ length new
  pub same : (v : ℕ) → v < length old → get_or new v [] ≡ get_or old v []
  pub there : to < length new
  pub each : (key : ℕ) → at (get_or new to []) key ≡ change key (at (get_or old from []) key)

-- the version has of each key the first in the line
pub record HasFirsts (keys : List ℕ) (rows : List (List ℕ)) (versions : List Map) (version : ℕ) (line : List ℕ) : Type 0 where
  pub there : version < length versions
  pub each : (key : ℕ) → at (get_or versions version []) key ≡ first_in (own_keyed keys rows key) line

-- each of these classes has its version
pub record AreLayersOf (Done : ℕ → Type 0) (graph : Graph) (keys : List ℕ) (rows : List (List ℕ)) (versions : List Map) (of : List ℕ) : Type 0 where
  pub count : length of ≡ length graph
  pub sized : AreSized (length keys) versions
  pub some : 0 < length versions
  pub empty : (key : ℕ) → at (get_or versions 0 []) key ≡ None
  pub there : (class : ℕ) → get_or of class 0 < length versions
  pub each : (class : ℕ) → class < length graph → Done class → (line : List ℕ) → IsLine graph class line → HasFirsts keys rows versions (get_or of class 0) line

-- the version of the first of these classes, or the empty one
abbrev pub version_above : List ℕ → List ℕ → ℕ
version_above [] of = 0
version_above (above ∷ rest) of = get_or of above 0

-- what the class has of each key, by what is above it
abbrev pub with_class : List ℕ → List (List ℕ) → ℕ → List ℕ → ℕ → Option ℕ → Option ℕ
with_class keys rows class extra key above = or_else (own_keyed keys rows key class) (or_else above (first_in (own_keyed keys rows key) extra))

-- the class gets its version
pub record AddsLayer (graph : Graph) (extras : List (List ℕ)) (keys : List ℕ) (rows : List (List ℕ)) (class : ℕ) (old : List Map) (old_of : List ℕ) (new : List Map) (new_of : List ℕ) : Type 0 where
  pub version : ℕ
  pub of : new_of ≡ set old_of class version
  pub steps : Steps (length keys) old (version_above (supers graph class) old_of) new version (with_class keys rows class (get_or extras class []))
