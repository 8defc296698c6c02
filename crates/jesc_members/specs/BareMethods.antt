-- In which classes a name and a number of parameters mean a method without a body.
use Rattle.std.specs.Prelude.{◌≡◌, ◌↔◌, ℕ, ◌<◌, Bool, false, not, Some, List, length, map, get_or, slice_get}
use Rattle.jesc_classes.specs.Order.{Graph}
use Rattle.jesc_members.specs.Fields.{first_that}
use Rattle.jesc_lookup.specs.Lookup.{Found}
use Rattle.jesc_members.specs.Methods.{MethodOf, has_body, is_method_named}

-- of each method whether it has no body
abbrev pub bare_of : List MethodOf → List Bool
bare_of methods = map (λ m. not (has_body m.tree)) methods

-- in the class a name and a number of parameters mean a method without a body
abbrev pub MeansBare : Graph → List MethodOf → ℕ → Type 0
MeansBare graph methods class = (name : List ℕ) × (count k : ℕ) × (m : MethodOf) × Found graph (λ c. first_that (is_method_named name count c) 0 methods) class (Some k) × (slice_get methods k ≡ Some m) × (has_body m.tree ≡ false)

-- each class's version has its tally
pub record TellsBare (graph : Graph) (methods : List MethodOf) (tallies of : List ℕ) : Type 0 where
  pub there : (class : ℕ) → get_or of class 0 < length tallies
  pub each : (class : ℕ) → class < length graph → (0 < get_or tallies (get_or of class 0) 0) ↔ MeansBare graph methods class
