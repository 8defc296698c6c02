-- Which declaration a class has under a name: its own, else that of its superclass, else those of its interfaces in order.
use Rattle.std.specs.Prelude.{◌≡◌, ℕ, Option, Some, None, List, [], ◌∷◌}
use Rattle.jesc_classes.specs.Order.{Graph, supers}

-- own tells what each class declares itself; a class's supertypes are in the order of its heading, the superclass first
mutual
  pub data Found (graph : Graph) (own : ℕ → Option ℕ) : ℕ → Option ℕ → Type 0 where
    own_one : (class found : ℕ) → own class ≡ Some found → Found graph own class (Some found)
    inherited : (class : ℕ) (found : Option ℕ) → own class ≡ None → FoundIn graph own (supers graph class) found → Found graph own class found

  -- the first of these classes that has one
  pub data FoundIn (graph : Graph) (own : ℕ → Option ℕ) : List ℕ → Option ℕ → Type 0 where
    nowhere : FoundIn graph own [] None
    in_first : (class found : ℕ) (rest : List ℕ) → Found graph own class (Some found) → FoundIn graph own (class ∷ rest) (Some found)
    in_rest : (class : ℕ) (rest : List ℕ) (found : Option ℕ) → Found graph own class None → FoundIn graph own rest found → FoundIn graph own (class ∷ rest) found
