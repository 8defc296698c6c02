-- What a member is, as a list.
use Rattle.std.specs.Prelude.{Option, Some, None, List, [], ◌∷◌}

-- no item or one, seen as those of the definitions
abbrev pub listed : {X Y : Type 0} → (X → Y) → Option X → List Y
listed see None = []
listed see (Some x) = see x ∷ []
