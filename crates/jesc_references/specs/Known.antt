-- What names mean at a place: plain names, and those of a class's fields and methods (JLS 6.4.1, 6.5).
use Rattle.std.specs.Prelude.{ℕ, ◌+◌, ◌<◌, length, Bool, true, false, Option, Some, None, List, [], ◌∷◌, bytes_eq, if◌then◌else◌}
use Rattle.std.specs.List.{slice_get}
use Rattle.jesc_ast.specs.Trees as ast
use Rattle.jesc_classes.specs.Named.{find}
use Rattle.jesc_lookup.specs.Lines.{or_else}
use Rattle.jesc_meanings.specs.Meanings.{class_named, constructor_found, field_found, method_found}
use Rattle.jesc_tree.specs.declared.class.Field.{Field}
use Rattle.jesc_tree.specs.declared.class.Method.{Method}
use Rattle.jesc_sites.specs.Sites.{Around, IsType, Setting}
use Rattle.jesc_sites.specs.declared.site.Binding.{Binding}
use Rattle.jesc_references.specs.declared.meaning.Meaning as code_meaning

-- ---- members, each with its id

abbrev pub there : {X : Type 0} → ℕ → Option X → Option (ℕ × X)
there id None = None
there id (Some x) = Some (id, x)

abbrev pub with_id : {X : Type 0} → List X → Option ℕ → Option (ℕ × X)
with_id items None = None
with_id items (Some id) = there id (slice_get items id)

-- the field that the name means in the class
abbrev pub field_in : Setting → ℕ → List ℕ → Option (ℕ × Field)
field_in s class name = with_id s.fields (field_found s.classes s.fields name class)

-- the method that the name means in the class for so many arguments
abbrev pub method_in : Setting → ℕ → List ℕ → ℕ → Option (ℕ × Method)
method_in s class name count = with_id s.methods (method_found s.classes s.methods name count class)

-- the class's own constructor for so many arguments
abbrev pub constructor_in : Setting → ℕ → ℕ → Option (ℕ × Method)
constructor_in s class count = with_id s.methods (constructor_found s.classes s.methods count class)

-- ---- plain names

-- the last of these names that is the one, by its index
abbrev pub last_from : ℕ → List ℕ → List (List ℕ) → Option ℕ
last_from i name [] = None
last_from i name (n ∷ names) = or_else (last_from (i + 1) name names) (if bytes_eq name n then Some i else None)

-- what a plain name is: a quantifier's variable by its index, a local, a field with its id, or none of these
pub data Meaning : Type 0 where
  variable : ℕ → Meaning
  local : Binding → Meaning
  field : ℕ → Field → Meaning
  unknown : Meaning

abbrev pub meaning_by : Option ℕ → Option Binding → Option (ℕ × Field) → Meaning
meaning_by (Some i) b f = variable i
meaning_by None (Some b) f = local b
meaning_by None None (Some f) = field f.0 f.1
meaning_by None None None = unknown

-- the innermost variable of that name, else the local in scope, else the field found from the class
abbrev pub meaning_of : Setting → Around → List ℕ → Meaning
meaning_of s a name = meaning_by (last_from 0 name a.variables) (find name s.locals) (field_in s s.class name)

abbrev pub is_unknown : Meaning → Bool
is_unknown unknown = true
is_unknown _ = false

-- the class that is named before a dot: a plain name that is nothing else
abbrev pub qualifier_class : Setting → Around → ast.Expression → Option ℕ
qualifier_class s a (ast.name span x) = if is_unknown (meaning_of s a x) then class_named s.classes x else None
qualifier_class s a _ = None

abbrev pub seen_field : ℕ → Option Field → Meaning
seen_field id None = unknown
seen_field id (Some f) = field id f

-- what the code's value tells
abbrev pub seen_meaning : Setting → code_meaning.Meaning → Meaning
seen_meaning s (code_meaning.TheVariants.Variable i) = variable i
seen_meaning s (code_meaning.TheVariants.Local b) = local b
seen_meaning s (code_meaning.TheVariants.Field f) = seen_field f.0 (slice_get s.fields f.0)
seen_meaning s code_meaning.TheVariants.Unknown = unknown

-- what a meaning speaks of is there
abbrev pub IsThere : Setting → List (List ℕ) → code_meaning.Meaning → Type 0
IsThere s variables (code_meaning.TheVariants.Variable i) = i < length variables
IsThere s variables (code_meaning.TheVariants.Local b) = IsType s b.ty
IsThere s variables (code_meaning.TheVariants.Field f) = f.0 < length s.fields
IsThere s variables code_meaning.TheVariants.Unknown = Unit {0}
