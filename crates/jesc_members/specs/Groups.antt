-- Data groups: a field joins a model field by `in` (JML Reference Manual, Data Groups).
use Rattle.std.specs.Prelude.{◌≡◌, ℕ, true, Some, List, slice_get}
use Rattle.std.specs.List.{Contains}
use Rattle.jesc_ast.specs.declared.word.Word.{Word}
use Rattle.jesc_classes.specs.Headings.{Source}
use Rattle.jesc_members.specs.Fields.{FieldOf, fields_of, is_model}
use Rattle.jesc_members.specs.Meanings.{FieldFound}

-- the name means that model field in the class
abbrev pub NamesModel : List Source → ℕ → List ℕ → ℕ → Type 0
NamesModel given class name g = FieldFound given name class (Some g) × ((m : FieldOf) × (slice_get (fields_of given) g ≡ Some m) × (is_model m ≡ true))

-- the first field names the second behind `in`
abbrev pub IsIn : List Source → ℕ → ℕ → Type 0
IsIn given f g = (x : FieldOf) × (slice_get (fields_of given) f ≡ Some x) × ((w : Word) × Contains x.tree.groups w × NamesModel given x.class w.text g)

-- the first field is a member of the second, direct or not
pub data IsMember (given : List Source) : ℕ → ℕ → Type 0 where
  direct : (f g : ℕ) → IsIn given f g → IsMember given f g
  further : (f g h : ℕ) → IsIn given f g → IsMember given g h → IsMember given f h
