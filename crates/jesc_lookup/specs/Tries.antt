-- The maps of versions as binary tries: the bits of a key, from the highest on, lead from a root to its value.
use Rattle.std.specs.Prelude.{◌≡◌, ℕ, zero, suc, ◌<◌, ◌≤◌, nat_lt, Bool, true, ◌&&◌, Option, Some, None, List, [], ◌∷◌, ◌++◌, map, length, get_or}
use Rattle.std.specs.List.{All}
use Rattle.jesc_lookup.specs.declared.versions.Version.{Version}
use Rattle.jesc_lookup.specs.Maps.{Map, at, with_at}

abbrev pub value_of : ℕ → Option ℕ
value_of zero = None
value_of (suc value) = Some value

-- what lies below a node, so many bits from the bottom; at the bottom a node is a value, 0 none and else one more than it
abbrev pub map_of : ℕ → List (ℕ × ℕ) → ℕ → Map
map_of zero nodes node = value_of node ∷ []
map_of (suc bits) nodes node = map_of bits nodes (get_or nodes node (0, 0)).0 ++ map_of bits nodes (get_or nodes node (0, 0)).1

abbrev pub maps_of : ℕ → List (ℕ × ℕ) → List Version → List Map
maps_of bits nodes list = map (λ v. map_of bits nodes v.root) list

-- the nodes above the bottom are there
abbrev pub is_trie : ℕ → List (ℕ × ℕ) → ℕ → Bool
is_trie zero nodes node = true
is_trie (suc bits) nodes node = nat_lt node (length nodes) && (is_trie bits nodes (get_or nodes node (0, 0)).0 && is_trie bits nodes (get_or nodes node (0, 0)).1)

-- the map of that version is an older one but for the value of one key
pub record IsMade (maps : List Map) (version : ℕ) (v : Version) : Type 0 where
  pub older : v.from < version
  pub inside : v.key < length (get_or maps v.from [])
  pub map : get_or maps version [] ≡ with_at (get_or maps v.from []) v.key v.value

-- the first version has no values, and each other is made from an older one
pub record AreMade (maps : List Map) (list : List Version) : Type 0 where
  pub first : (key : ℕ) → at (get_or maps 0 []) key ≡ None
  pub each : (i : ℕ) (d : Version) → 0 < i → i < length list → IsMade maps i (get_or list i d)

pub record AreVersions (bits : ℕ) (nodes : List (ℕ × ℕ)) (list : List Version) : Type 0 where
  pub low : bits ≤ 32
  pub tries : All (λ v. is_trie bits nodes v.root ≡ true) list
  pub made : AreMade (maps_of bits nodes list) list

-- where the node for one more value goes, so many bits from the bottom
abbrev pub place_for : ℕ → ℕ → ℕ → ℕ
place_for zero end value = suc value
place_for (suc bits) end value = end

-- below the place lies what lay below the node, but for the value at the key
pub record IsPut (bits : ℕ) (nodes : List (ℕ × ℕ)) (node key value : ℕ) (more : List (ℕ × ℕ)) (place : ℕ) : Type 0 where
  pub trie : is_trie bits more place ≡ true
  pub map : map_of bits more place ≡ with_at (map_of bits nodes node) key value
