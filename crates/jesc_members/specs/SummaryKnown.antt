-- What is known of a list of methods, which is added to one by one.
use Rattle.std.specs.Prelude.{◌≡◌, ◌↔◌, ℕ, ◌<◌, ◌≤◌, nat_eq, true, Some, List, [], ◌∷◌, ◌++◌, length, get_or, set, slice_get, if◌then◌else◌}
use Rattle.std.specs.List.{All}
use Rattle.jesc_members.specs.declared.summary.Summary.{Summary}
use Rattle.jesc_members.specs.declared.summary_layers.Above.{Above}
use Rattle.jesc_lookup.specs.Layers.{AreSized}
use Rattle.jesc_lookup.specs.Maps.{Map, at}
use Rattle.jesc_members.specs.Methods.{MethodOf}
use Rattle.jesc_members.specs.Summaries.{IsSummaryOf}
use Rattle.jesc_members.specs.SummaryLayers.{above_at, has_differing, has_hidden, nothing_above, summary_at}

-- those of these items that have the key
abbrev pub keyed : List ℕ → ℕ → List ℕ → List ℕ
keyed keys key [] = []
keyed keys key (i ∷ is) = if nat_eq key (get_or keys i 0) then i ∷ keyed keys key is else keyed keys key is

-- the items of these classes
abbrev pub items_of : List (List ℕ) → List ℕ → List ℕ
items_of rows [] = []
items_of rows (c ∷ cs) = get_or rows c [] ++ items_of rows cs

-- what is known of the first of these classes, or nothing
abbrev pub first_above : List ℕ → List Above → Above
first_above [] whole = nothing_above
first_above (c ∷ cs) whole = above_at whole c

-- every version leads to summaries that are there
pub record IsStore (size : ℕ) (versions : List Map) (summaries : List Summary) : Type 0 where
  pub sized : AreSized size versions
  pub inside : (v key place : ℕ) → v < length versions → at (get_or versions v []) key ≡ Some place → place < length summaries

-- what is known of these items
pub record IsKnown (methods : List MethodOf) (keys : List ℕ) (versions : List Map) (summaries : List Summary) (items : List ℕ) (a : Above) : Type 0 where
  pub there : a.version < length versions
  pub each : (key : ℕ) → IsSummaryOf methods (keyed keys key items) (summary_at versions summaries a key)
  pub differs : (a.differs ≡ true) ↔ ((key : ℕ) × has_differing (summary_at versions summaries a key))
  pub hides : (a.hides ≡ true) ↔ ((key : ℕ) × has_hidden (summary_at versions summaries a key))

-- it is known of some items
pub record IsHeld (methods : List MethodOf) (keys : List ℕ) (versions : List Map) (summaries : List Summary) (a : Above) : Type 0 where
  pub items : List ℕ
  pub small : All (λ i. i < length keys) items
  pub known : IsKnown methods keys versions summaries items a

-- there are more versions and summaries
pub record Grows (size : ℕ) (versions : List Map) (summaries : List Summary) (new : List Map) (new_summaries : List Summary) : Type 0 where
  pub store : IsStore size new new_summaries
  pub more : length versions ≤ length new
  pub same : (v : ℕ) → v < length versions → get_or new v [] ≡ get_or versions v []
  pub longer : length summaries ≤ length new_summaries
  pub kept : (place : ℕ) → place < length summaries → slice_get new_summaries place ≡ slice_get summaries place

-- these items are added to what is known
pub record Adds (methods : List MethodOf) (keys : List ℕ) (versions : List Map) (summaries : List Summary) (a : Above) (new : List Map) (new_summaries : List Summary) (new_a : Above) (added : List ℕ) : Type 0 where
  pub grows : Grows (length keys) versions summaries new new_summaries
  pub known : (items : List ℕ) → IsKnown methods keys versions summaries items a → IsKnown methods keys new new_summaries (items ++ added) new_a

-- a class gets what is known above it, and with it
pub record AddsClass (methods : List MethodOf) (keys : List ℕ) (rows : List (List ℕ)) (extra : List ℕ) (class : ℕ) (first : Above) (versions : List Map) (summaries : List Summary) (above whole : List Above) (new : List Map) (new_summaries : List Summary) (new_above new_whole : List Above) : Type 0 where
  pub over : Above
  pub own : Above
  pub above_set : new_above ≡ set above class over
  pub whole_set : new_whole ≡ set whole class own
  pub to_above : Adds methods keys versions summaries first new new_summaries over (items_of rows extra)
  pub to_own : Adds methods keys versions summaries first new new_summaries own (items_of rows extra ++ get_or rows class [])
