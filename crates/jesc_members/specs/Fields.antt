-- The fields that the given classes declare, in source order: a field is known by its number in this list.
use Rattle.std.specs.Prelude.{ℕ, ◌+◌, nat_eq, ◌&&◌, Bool, true, false, Option, Some, None, List, [], ◌∷◌, ◌++◌, bytes_eq, codes, if◌then◌else◌}
use Rattle.std.specs.List.{list_any}
use Rattle.jesc_ast.specs.declared.class.FieldTree.{FieldTree}
use Rattle.jesc_ast.specs.declared.class.MemberTree.{MemberTree}
use Rattle.jesc_ast.specs.declared.class.MemberNode.{MemberNode}
use Rattle.jesc_ast.specs.declared.class.MemberNode.TheVariants as members
use Rattle.jesc_ast.specs.declared.word.Word.{Word}
use Rattle.jesc_classes.specs.Headings.{Source, is_word}

-- a field, with the number of its class; is_spec tells a ghost or model field
pub record FieldOf : Type 0 where
  pub class : ℕ
  pub source : Source
  pub is_spec : Bool
  pub tree : FieldTree

abbrev pub field_of : ℕ → Source → Bool → FieldTree → FieldOf
field_of class source is_spec tree = record { class = class; source = source; is_spec = is_spec; tree = tree }

-- the field that a member is
abbrev pub field_in : ℕ → Source → MemberNode → List FieldOf
field_in class s members.Empty = []
field_in class s (members.Field f) = field_of class s false f ∷ []
field_in class s (members.SpecField f) = field_of class s true f ∷ []
field_in class s (members.Invariant i) = []
field_in class s (members.Represents r) = []
field_in class s (members.Method m) = []
field_in class s (members.Constructor c) = []

abbrev pub fields_in : ℕ → Source → List MemberTree → List FieldOf
fields_in class s [] = []
fields_in class s (m ∷ ms) = field_in class s m.node ++ fields_in class s ms

abbrev pub fields_from : ℕ → List Source → List FieldOf
fields_from class [] = []
fields_from class (s ∷ rest) = fields_in class s s.tree.members ++ fields_from (class + 1) rest

-- the first given class has the number 7
abbrev pub fields_of : List Source → List FieldOf
fields_of given = fields_from 7 given

-- the number of the first item that passes the test
abbrev pub first_that : {X : Type 0} → (X → Bool) → ℕ → List X → Option ℕ
first_that test n [] = None
first_that test n (x ∷ xs) = if test x then Some n else first_that test (n + 1) xs

abbrev pub is_field_named : List ℕ → ℕ → FieldOf → Bool
is_field_named name class f = nat_eq class f.class && bytes_eq name f.tree.name.text

-- the first field of that name that the class itself declares
abbrev pub own_field : List Source → List ℕ → ℕ → Option ℕ
own_field given name class = first_that (is_field_named name class) 0 (fields_of given)

-- whether the word stands among the modifiers
abbrev pub has : List ℕ → List Word → Bool
has text modifiers = list_any (is_word text) modifiers

abbrev pub is_model : FieldOf → Bool
is_model f = f.is_spec && has (codes "model") f.tree.modifiers

abbrev pub is_ghost : FieldOf → Bool
is_ghost f = f.is_spec && has (codes "ghost") f.tree.modifiers
