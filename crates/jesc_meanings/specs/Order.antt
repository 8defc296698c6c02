-- What is found is found in the order of lookup.
use Rattle.std.specs.Prelude.{ℕ, ◌<◌, Option}
use Rattle.std.specs.List.{All}
use Rattle.jesc_classes.specs.Order.{Graph, supers}
use Rattle.jesc_lookup.specs.Lookup.{Found}
use Rattle.jesc_meanings.specs.Meanings.{found}

-- supertypes have smaller ids
abbrev pub IsFalling : Graph → Type 0
IsFalling graph = (class : ℕ) → All (λ above. above < class) (supers graph class)

abbrev pub FoundInOrder : Type 0
FoundInOrder = (graph : Graph) (own : ℕ → Option ℕ) (class : ℕ) → IsFalling graph → Found graph own class (found graph own class)
