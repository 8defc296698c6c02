-- Lines while they grow: what a version has of a line, and what is added to it.
use Rattle.std.specs.Prelude.{◌≡◌, ℕ, suc, ◌<◌, ◌≤◌, nat_eq, not, Bool, true, false, List, [], ◌∷◌, ◌++◌, length, get_or, take, Option, Some, None, if◌then◌else◌}
use Rattle.std.specs.List.{All, Contains, list_any}
use Rattle.jesc_classes.specs.Order.{Graph, supers, Above, IsAcyclic, IsWithin}
use Rattle.jesc_lookup.specs.declared.lines.Line.{Line}
use Rattle.jesc_lookup.specs.Lines.{IsLine, IsExtra}
use Rattle.jesc_lookup.specs.Maps.{Map, at}

-- what a map has of a class where it has the classes of the line
abbrev pub mark : List ℕ → ℕ → Option ℕ
mark line class = if list_any (nat_eq class) line then Some 0 else None

-- the map has exactly the classes of the line
abbrev pub Marks : Map → List ℕ → Type 0
Marks m line = (class : ℕ) → at m class ≡ mark line class

abbrev pub map_in : List Map → Line → Map
map_in versions line = get_or versions line.version []

-- what of the second list is new behind the first
abbrev pub added : List ℕ → List ℕ → List ℕ
added line [] = []
added line (x ∷ xs) = if list_any (nat_eq x) line then added line xs else (x ∷ added (line ++ x ∷ []) xs)

-- how many keys have nothing
abbrev pub gaps : Map → ℕ
gaps [] = 0
gaps (None ∷ m) = suc (gaps m)
gaps (Some x ∷ m) = gaps m

-- the versions and the classes behind the first supertype's line stay, and there may be more
pub record Grows (old : List Map) (a : Line) (new : List Map) (b : Line) : Type 0 where
  pub kept : take (length old) new ≡ old
  pub extra : take (length a.extra) b.extra ≡ a.extra
  pub there : b.version < length new
  pub size : length (map_in new b) ≡ length (map_in old a)

-- those of the classes that are new are added
pub record Merges (old : List Map) (a : Line) (new : List Map) (b : Line) (classes : List ℕ) : Type 0 where
  pub grows : Grows old a new b
  pub extra : (line : List ℕ) → Marks (map_in old a) line → b.extra ≡ a.extra ++ added line classes
  pub marks : (line : List ℕ) → Marks (map_in old a) line → Marks (map_in new b) (line ++ added line classes)

-- the class is added if it is new
pub record Meets (old : List Map) (a : Line) (new : List Map) (b : Line) (class : ℕ) (is_new : Bool) : Type 0 where
  pub merges : Merges old a new b (class ∷ [])
  pub fewer : is_new ≡ true → gaps (map_in new b) < gaps (map_in old a)
  pub more : is_new ≡ true → b.extra ≡ a.extra ++ class ∷ []
  pub same : is_new ≡ false → b.extra ≡ a.extra
  pub is_old : (line : List ℕ) → Marks (map_in old a) line → list_any (nat_eq class) line ≡ not is_new

-- the class, its first supertype, and so on, as far as they are new behind the line
pub data IsPath (graph : Graph) : List ℕ → ℕ → List ℕ → Type 0 where
  known : (line : List ℕ) (class : ℕ) → list_any (nat_eq class) line ≡ true → IsPath graph line class []
  top : (line : List ℕ) (class : ℕ) → list_any (nat_eq class) line ≡ false → supers graph class ≡ [] → IsPath graph line class (class ∷ [])
  up : (line : List ℕ) (class first : ℕ) (rest path : List ℕ) → list_any (nat_eq class) line ≡ false → supers graph class ≡ first ∷ rest → IsPath graph (line ++ class ∷ []) first path → IsPath graph line class (class ∷ path)

pub record Climbs (graph : Graph) (old : List Map) (a : Line) (new : List Map) (b : Line) (class : ℕ) : Type 0 where
  pub grows : Grows old a new b
  pub path : List ℕ
  pub extra : b.extra ≡ a.extra ++ path
  pub below : All (λ c. c < length graph) path
  pub is_path : (line : List ℕ) → Marks (map_in old a) line → IsPath graph line class path
  pub marks : (line : List ℕ) → Marks (map_in old a) line → Marks (map_in new b) (line ++ path)

-- whatever is above a class of the line is on it
abbrev pub IsClosed : Graph → List ℕ → Type 0
IsClosed graph line = (c d : ℕ) → Contains line c → Above graph c d → Contains line d

-- what the line of the class has is added
pub record AddsLine (graph : Graph) (old : List Map) (a : Line) (new : List Map) (b : Line) (class : ℕ) : Type 0 where
  pub grows : Grows old a new b
  pub extra : (line other : List ℕ) → Marks (map_in old a) line → IsClosed graph line → IsLine graph class other → b.extra ≡ a.extra ++ added line other
  pub marks : (line other : List ℕ) → Marks (map_in old a) line → IsClosed graph line → IsLine graph class other → Marks (map_in new b) (line ++ added line other)

-- the version is there, and has a place for each class
pub record IsRoom (graph : Graph) (versions : List Map) (line : Line) : Type 0 where
  pub there : line.version < length versions
  pub room : length graph ≤ length (map_in versions line)

-- the rows of the class and of those above it are known
pub record AreAbove (graph : Graph) (rows : List (List ℕ)) (class : ℕ) : Type 0 where
  pub within : IsWithin graph
  pub acyclic : IsAcyclic graph
  pub count : length rows ≡ length graph
  pub own : IsExtra graph class (get_or rows class [])
  pub above : (d : ℕ) → Above graph class d → IsExtra graph d (get_or rows d [])
  pub below : All (All (λ c. c < length graph)) rows
  pub line : (d : ℕ) → d < length graph → (line : List ℕ) × IsLine graph d line

-- a version has the line of a class
pub record IsHeld (graph : Graph) (versions : List Map) (version class : ℕ) : Type 0 where
  pub there : version < length versions
  pub room : length graph ≤ length (get_or versions version [])
  pub marks : (line : List ℕ) → IsLine graph class line → Marks (get_or versions version []) line

-- what is known where the line of the class is made
pub record AreKnown (graph : Graph) (rows : List (List ℕ)) (held : List ℕ) (versions : List Map) (class : ℕ) : Type 0 where
  pub given : class < length graph
  pub within : IsWithin graph
  pub acyclic : IsAcyclic graph
  pub rows_count : length rows ≡ length graph
  pub held_count : length held ≡ length graph
  pub below : All (All (λ c. c < length graph)) rows
  pub line : (d : ℕ) → d < length graph → (line : List ℕ) × IsLine graph d line
  pub above : (d : ℕ) → Above graph class d → IsExtra graph d (get_or rows d [])
  pub is_held : (d : ℕ) → Above graph class d → IsHeld graph versions (get_or held d 0) d
  pub first : 0 < length versions
  pub room : length graph ≤ length (get_or versions 0 [])
  pub empty : Marks (get_or versions 0 []) []

pub record HasLine (graph : Graph) (old new : List Map) (class : ℕ) (line : Line) : Type 0 where
  pub kept : take (length old) new ≡ old
  pub extra : IsExtra graph class line.extra
  pub below : All (λ c. c < length graph) line.extra
  pub held : IsHeld graph new line.version class
