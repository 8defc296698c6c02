-- When the tables of classes, fields and methods make a program, and when it is lawful.
use Rattle.std.specs.Prelude.{◌≡◌, ℕ, ◌<◌, true, false, Option, None, List, [], ◌∷◌, ◌++◌, ◌⊎◌, length, map, take, codes}
use Rattle.std.specs.List.{All}
use Rattle.std.specs.Fmt.{decimal}
use Rattle.jesc_text.specs.declared.place.Place.{Place}
use Rattle.jesc_tree.specs.declared.ids.ClassId.{ClassId}
use Rattle.jesc_tree.specs.declared.class.Class.{Class}
use Rattle.jesc_tree.specs.declared.class.Field.{Field}
use Rattle.jesc_tree.specs.declared.class.Method.{Method}
use Rattle.jesc_tree.specs.Ids.{Id, of_class, of_field, of_method, class_ids, field_ids, method_ids}
use Rattle.jesc_tree.specs.Subtypes.{IsAt, parent_list, supertypes}

-- the id is an index of its table
abbrev pub IsInRange : List Class → List Field → List Method → Id → Type 0
IsInRange classes fields methods (of_class c) = c.0 < length classes
IsInRange classes fields methods (of_field f) = f.0 < length fields
IsInRange classes fields methods (of_method m) = m.0 < length methods

-- the predefined classes in the order of their ids, each with the id of its superclass
abbrev pub predefined : List (List ℕ × List ℕ)
predefined = (codes "Object", []) ∷ (codes "Throwable", 0 ∷ []) ∷ (codes "Exception", 1 ∷ []) ∷ (codes "Error", 1 ∷ [])
    ∷ (codes "RuntimeException", 2 ∷ []) ∷ (codes "IllegalArgumentException", 4 ∷ []) ∷ (codes "IllegalStateException", 4 ∷ []) ∷ []

-- the place of what no file holds
abbrev pub nowhere : Place
nowhere = record { file = 0; line = 0; col = 0 }

-- a class that is neither an interface nor abstract, in no file, with nothing but a name, a superclass and constructors
pub record IsBare (c : Class) : Type 0 where
  pub place : c.place ≡ nowhere
  pub interfaces : c.interfaces ≡ []
  pub is_class : c.is_interface ≡ false
  pub is_concrete : c.is_abstract ≡ false
  pub fields : c.fields ≡ []
  pub invariants : c.invariants ≡ []
  pub represents : c.represents ≡ []

-- the class with that name and superclass, and nothing else
abbrev pub bare_class : List ℕ → Option ClassId → Class
bare_class name parent = record {
  name = name;
  place = nowhere;
  parent = parent;
  interfaces = [];
  is_interface = false;
  is_abstract = false;
  fields = [];
  methods = [];
  invariants = [];
  represents = [];
}

-- what is true of the tables of each program
pub record IsProgram (classes : List Class) (fields : List Field) (methods : List Method) : Type 0 where
  pub of_classes : All (λ c. All (IsInRange classes fields methods) (class_ids c)) classes
  pub of_fields : All (λ f. All (IsInRange classes fields methods) (field_ids f)) fields
  pub of_methods : All (λ m. All (IsInRange classes fields methods) (method_ids m)) methods
  -- a class's supertypes have smaller ids
  pub supertypes_first : (i : ℕ) (c : Class) → IsAt classes i c → All (λ s. s < i) (supertypes c)
  -- the ids 0 to 6 are those of the predefined classes
  pub names : map (λ c. (c.name, parent_list c.parent)) (take 7 classes) ≡ predefined
  pub bare : All IsBare (take 7 classes)

-- what the rules on headings say of a class (JLS 8.1.4, 8.1.5, 9.1.3)
pub record IsLawfulHeading (classes : List Class) (i : ℕ) (c : Class) : Type 0 where
  -- the name is the class's alone
  pub own_name : (j : ℕ) (d : Class) → IsAt classes j d → d.name ≡ c.name → j ≡ i
  -- Object and interfaces have no superclass, and each other class has one
  pub superclass : (c.parent ≡ None → (i ≡ 0) ⊎ (c.is_interface ≡ true)) × ((i ≡ 0) ⊎ (c.is_interface ≡ true) → c.parent ≡ None)
  -- which is a class
  pub extends_class : (p : ℕ) (d : Class) → parent_list c.parent ≡ p ∷ [] → IsAt classes p d → d.is_interface ≡ false
  pub interfaces : All (λ s. (d : Class) → IsAt classes s.0 d → d.is_interface ≡ true) c.interfaces

-- what each later layer may rest on: the rules of names and types hold of the tables
pub record IsLawful (classes : List Class) (fields : List Field) (methods : List Method) : Type 0 where
  pub program : IsProgram classes fields methods
  pub headings : (i : ℕ) (c : Class) → IsAt classes i c → IsLawfulHeading classes i c

-- the name of a duty: class, method and number of parameters
abbrev pub name_of : Class → Method → List ℕ
name_of c m = c.name ++ codes "." ++ m.name ++ codes "/" ++ decimal (length m.params)
