-- The key of each method, and the methods of each class.
use Rattle.std.specs.Prelude.{◌≡◌, ℕ, Some, List, length, map, get_or, slice_get}
use Rattle.jesc_classes.specs.Named.{Named, find}
use Rattle.jesc_members.specs.Counts.{Label, alike, found_in}
use Rattle.jesc_members.specs.Keys.{AreRows, HasKeys}
use Rattle.jesc_lookup.specs.Layers.{AreItems}
use Rattle.jesc_members.specs.Methods.{MethodOf}

-- the keys and rows of these methods, whose keys are found by name and number of parameters
pub record AreKeyed (classes : ℕ) (methods : List MethodOf) (names : List (Named ℕ)) (table : List (List ℕ)) (counts keys : List ℕ) (rows : List (List ℕ)) : Type 0 where
  pub keyed : HasKeys Label alike (map (λ m. (m.tree.name.text, length m.tree.params)) methods) keys
  pub rowed : AreRows classes (map (λ m. m.class) methods) rows
  pub items : AreItems classes keys rows
  pub found : (i : ℕ) (m : MethodOf) → slice_get methods i ≡ Some m → found_in counts table (find m.tree.name.text names) (length m.tree.params) ≡ Some (get_or keys i 0)
