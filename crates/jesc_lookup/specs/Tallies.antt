-- How many values of a map are marked.
use Rattle.std.specs.Prelude.{ℕ, ◌+◌, Bool, false, Option, Some, None, List, [], ◌∷◌, get_or, if◌then◌else◌}
use Rattle.jesc_lookup.specs.Maps.{Map}

-- 1 for a marked value
abbrev pub mark_of : List Bool → Option ℕ → ℕ
mark_of marks None = 0
mark_of marks (Some value) = if get_or marks value false then 1 else 0

abbrev pub marked_in : List Bool → Map → ℕ
marked_in marks [] = 0
marked_in marks (x ∷ xs) = mark_of marks x + marked_in marks xs
