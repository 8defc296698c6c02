-- How tables of fields, methods and classes grow.
use Rattle.std.specs.Prelude.{◌≡◌, ◌↔◌, ℕ, ◌+◌, ◌<◌, List, [], ◌∷◌, ◌++◌, length, map}
use Rattle.std.specs.List.{AllZip, Contains}
use Rattle.jesc_tree.specs.declared.ids.FieldId.{FieldId}
use Rattle.jesc_tree.specs.declared.class.Class.{Class}
use Rattle.jesc_tree.specs.declared.class.Field.{Field}
use Rattle.jesc_tree.specs.declared.class.Method.{Method}
use Rattle.jesc_classes.specs.Headings.{Source}
use Rattle.jesc_classes.specs.Entries.{AreApart, AreIds}
use Rattle.jesc_classes.specs.Resolved.{IsId}
use Rattle.jesc_members.specs.Fields.{fields_of}
use Rattle.jesc_members.specs.Groups.{IsMember}
use Rattle.jesc_names.specs.Program.{Callable, IsField, IsMethod, Rise, field_order}

-- the ids of all fields by number
pub record AreFieldIds (given : List Source) (classes numbers ids : List ℕ) : Type 0 where
  pub order : numbers ≡ field_order given classes
  pub count : length ids ≡ length (fields_of given)
  pub apart : AreApart numbers
  pub each : AreIds numbers ids

-- the ids of all members of the field of this number
pub record AreMembersOf (given : List Source) (order : List ℕ) (n : ℕ) (xs : List FieldId) : Type 0 where
  pub rising : Rise (map (λ m. m.0) xs)
  pub below : (q : ℕ) → Contains (map (λ m. m.0) xs) q → q < length order
  pub members : (m id : ℕ) → IsId order m id → (Contains (map (λ m. m.0) xs) id → IsMember given m n) × (IsMember given m n → Contains (map (λ m. m.0) xs) id)

-- what the table of fields holds of the field of this number
pub record IsRow (given : List Source) (classes : List ℕ) (n : ℕ) (x : Field) : Type 0 where
  pub field : IsField given classes n x
  pub below : (q : ℕ) → Contains (map (λ m. m.0) x.members) q → q < length (field_order given classes)

-- the other table has these methods and constructors more, behind those of this one
abbrev pub Adds : List Source → List ℕ → List Callable → List Method → List Method → Type 0
Adds given order more old new = (before : List Callable) → AllZip (IsMethod given order) before old → AllZip (IsMethod given order) (before ++ more) new

-- the class without fields and methods
abbrev pub plain : Class → Class
plain c = record {
  name = c.name;
  place = c.place;
  parent = c.parent;
  interfaces = c.interfaces;
  is_interface = c.is_interface;
  is_abstract = c.is_abstract;
  fields = [];
  methods = [];
  invariants = c.invariants;
  represents = c.represents;
}

-- the list has exactly these numbers, rising
pub record HasRising (numbers : List ℕ) (ids : List FieldId) : Type 0 where
  pub rising : Rise (map (λ m. m.0) ids)
  pub same : (q : ℕ) → Contains (map (λ m. m.0) ids) q ↔ Contains numbers q

abbrev pub total : List ℕ → ℕ
total [] = 0
total (n ∷ ns) = n + total ns
