-- How far the giving of ids has come: which classes have one, are ready, or wait for one of their supertypes.
use Rattle.std.specs.Prelude.{◌≡◌, ◌↔◌, ◌⊎◌, ℕ, ◌<◌, Bool, List, [], ◌∷◌, length, get_or, true, false}
use Rattle.std.specs.List.{Contains, All, AllWithin}
use Rattle.jesc_classes.specs.declared.order.Progress.{Progress}
use Rattle.jesc_classes.specs.declared.order.Waiting.{Waiting}
use Rattle.jesc_classes.specs.Order.{Graph, supers, IsReady}

-- the tables have a row for each of so many classes
pub record IsSized (classes : ℕ) (p : Progress) : Type 0 where
  pub marks : length p.has_id.items ≡ classes
  pub rows : length p.waiting.items ≡ classes

-- no class has an id, is ready or waits
pub record IsEmpty (p : Progress) : Type 0 where
  pub order : p.order ≡ []
  pub marks : All (λ mark. mark ≡ false) p.has_id.items
  pub ready : p.ready.keys ≡ []
  pub rows : All (λ row. row ≡ []) p.waiting.items

-- the class has a mark
abbrev pub IsMarked : List Bool → ℕ → Type 0
IsMarked marks class = get_or marks class false ≡ true

-- the classes from the one place up to the other have marks
abbrev pub AllMarked : List Bool → List ℕ → ℕ → ℕ → Type 0
AllMarked marks classes low high = AllWithin (IsMarked marks) classes low high

-- the class at that place has no mark, and those before it, from the start on, have
abbrev pub IsFirstUnmarked : List Bool → List ℕ → ℕ → ℕ → Type 0
IsFirstUnmarked marks classes start place = (place < length classes) × (get_or marks (get_or classes place 0) false ≡ false) × AllMarked marks classes start place

-- the class has no id; those that its heading names before that place have
pub record IsOpen (graph : Graph) (done : List ℕ) (w : Waiting) : Type 0 where
  pub given : w.class < length graph
  pub waits : Contains done w.class → ⊥
  pub before : AllWithin (Contains done) (supers graph w.class) 0 w.place

-- the class waits in the row of one that has no id
abbrev pub Waits : List ℕ → List (List Waiting) → ℕ → Type 0
Waits done rows class = (above : ℕ) × (Contains done above → ⊥) × (w : Waiting) × Contains (get_or rows above []) w × (w.class ≡ class)

-- what the tables say is so; each class without an id is ready, waits, or is one of those that are still to be entered
pub record Stands (graph : Graph) (done : List ℕ) (marks : List Bool) (ready : List ℕ) (rows : List (List Waiting)) (pending : List ℕ) : Type 0 where
  pub marks_say : (class : ℕ) → class < length graph → IsMarked marks class ↔ Contains done class
  pub ready_say : (class : ℕ) → Contains ready class → IsReady graph done class
  pub rows_say : (above : ℕ) → (Contains done above → ⊥) → (w : Waiting) → Contains (get_or rows above []) w → IsOpen graph done w × Contains (supers graph w.class) above
  pub each : (class : ℕ) → class < length graph → (Contains done class → ⊥) → Contains ready class ⊎ (Waits done rows class ⊎ Contains pending class)

abbrev pub Keeps : Graph → List ℕ → Progress → Type 0
Keeps graph pending p = Stands graph p.order p.has_id.items p.ready.keys p.waiting.items pending

-- that class is entered among the ready ones or in a row
pub record Settles (graph : Graph) (class : ℕ) (old new : Progress) : Type 0 where
  pub order : new.order ≡ old.order
  pub sized : IsSized (length graph) new
  pub keeps : (pending : List ℕ) → Keeps graph (class ∷ pending) old → Keeps graph pending new
