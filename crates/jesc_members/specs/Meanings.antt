-- What a name means in a class, by the order of lookup.
use Rattle.std.specs.Prelude.{ℕ, Option, List}
use Rattle.jesc_classes.specs.Headings.{Source, graph_of}
use Rattle.jesc_members.specs.Fields.{own_field}
use Rattle.jesc_lookup.specs.Lookup.{Found}
use Rattle.jesc_members.specs.Methods.{own_method}

-- the field that a name means in a class, by number
abbrev pub FieldFound : List Source → List ℕ → ℕ → Option ℕ → Type 0
FieldFound given name class found = Found (graph_of given) (own_field given name) class found

-- the method of that name and number of parameters in a class, by number
abbrev pub MethodFound : List Source → List ℕ → ℕ → ℕ → Option ℕ → Type 0
MethodFound given name count class found = Found (graph_of given) (own_method given name count) class found
