-- What a name means in a program: a class by its name, a field by class and name, a method by class, name and number of
-- arguments, a constructor by class and number of arguments.
use Rattle.std.specs.Prelude.{ℕ, zero, suc, ◌+◌, nat_eq, ◌&&◌, not, Bool, false, Option, Some, None, List, [], ◌∷◌, length, map, get_or, bytes_eq, if◌then◌else◌}
use Rattle.std.specs.List.{slice_get}
use Rattle.jesc_tree.specs.declared.class.Class.{Class}
use Rattle.jesc_tree.specs.declared.class.Field.{Field}
use Rattle.jesc_tree.specs.declared.class.Method.{Method}
use Rattle.jesc_tree.specs.Subtypes.{supertypes}
use Rattle.jesc_classes.specs.Order.{Graph, supers}
use Rattle.jesc_lookup.specs.Lines.{first_in, or_else}

-- ---- classes

-- the index of the first item that passes the test, where the list begins with that index
abbrev pub first_at : {X : Type 0} → (X → Bool) → ℕ → List X → Option ℕ
first_at test n [] = None
first_at test n (x ∷ xs) = if test x then Some n else first_at test (n + 1) xs

-- the first class of that name
abbrev pub class_named : List Class → List ℕ → Option ℕ
class_named classes name = first_at (λ (c : Class). bytes_eq name c.name) 0 classes

-- ---- what a class declares itself

-- the first of these ids that passes the test
abbrev pub first_that : (ℕ → Bool) → List ℕ → Option ℕ
first_that test [] = None
first_that test (i ∷ is) = if test i then Some i else first_that test is

-- of each class the ids of its fields
abbrev pub field_rows : List Class → List (List ℕ)
field_rows classes = map (λ (c : Class). map (λ f. f.0) c.fields) classes

-- of each class the ids of its constructors and methods
abbrev pub method_rows : List Class → List (List ℕ)
method_rows classes = map (λ (c : Class). map (λ m. m.0) c.methods) classes

-- an id that is no index passes no test
abbrev pub passes : {X : Type 0} → (X → Bool) → Option X → Bool
passes test None = false
passes test (Some x) = test x

abbrev pub is_field_named : List Field → List ℕ → ℕ → Bool
is_field_named fields name i = passes (λ (f : Field). bytes_eq name f.name) (slice_get fields i)

abbrev pub is_method_named : List Method → List ℕ → ℕ → ℕ → Bool
is_method_named methods name count i = passes (λ (m : Method). not m.is_constructor && (bytes_eq name m.name && nat_eq count (length m.params))) (slice_get methods i)

abbrev pub is_constructor_of : List Method → ℕ → ℕ → Bool
is_constructor_of methods count i = passes (λ (m : Method). m.is_constructor && nat_eq count (length m.params)) (slice_get methods i)

-- the field of that name that the class declares
abbrev pub own_field : List Class → List Field → List ℕ → ℕ → Option ℕ
own_field classes fields name class = first_that (is_field_named fields name) (get_or (field_rows classes) class [])

-- the method of that name and number of parameters that the class declares
abbrev pub own_method : List Class → List Method → List ℕ → ℕ → ℕ → Option ℕ
own_method classes methods name count class = first_that (is_method_named methods name count) (get_or (method_rows classes) class [])

-- the constructor with that number of parameters that the class declares
abbrev pub own_constructor : List Class → List Method → ℕ → ℕ → Option ℕ
own_constructor classes methods count class = first_that (is_constructor_of methods count) (get_or (method_rows classes) class [])

-- ---- what a class has, by what it declares itself and what its supertypes have

-- of each class its supertypes, the superclass first
abbrev pub graph_of : List Class → Graph
graph_of classes = map supertypes classes

-- its own, else the first that its supertypes have, in order; so many classes at most are passed on the way up
abbrev pub found_by : ℕ → Graph → (ℕ → Option ℕ) → ℕ → Option ℕ
found_by zero graph own class = None
found_by (suc more) graph own class = or_else (own class) (first_in (found_by more graph own) (supers graph class))

-- a supertype has a smaller id, so that no way up is longer
unfoldable pub found : Graph → (ℕ → Option ℕ) → ℕ → Option ℕ
found graph own class = found_by (suc class) graph own class

-- the field that the name means in the class
abbrev pub field_found : List Class → List Field → List ℕ → ℕ → Option ℕ
field_found classes fields name class = found (graph_of classes) (own_field classes fields name) class

-- the method that the name means in the class where it has so many arguments
abbrev pub method_found : List Class → List Method → List ℕ → ℕ → ℕ → Option ℕ
method_found classes methods name count class = found (graph_of classes) (own_method classes methods name count) class

-- the constructor that so many arguments mean: one of the class alone
abbrev pub constructor_found : List Class → List Method → ℕ → ℕ → Option ℕ
constructor_found classes methods count class = own_constructor classes methods count class
