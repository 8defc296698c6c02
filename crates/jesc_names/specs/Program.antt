-- The program of class and member headings: the tables without bodies, cases, initial values, invariants and represents
-- clauses, but with the constants, and with the predefined and generated constructors and their case.
use Rattle.std.specs.Prelude.{◌≡◌, ℕ, zero, suc, ◌+◌, ◌<◌, nat_eq, nat_lt, ◌&&◌, ◌||◌, Bool, true, false, ℤ, Option, Some, None, List, [], ◌∷◌, ◌++◌, length, map, codes, slice_get, get_or, if◌then◌else◌}
use Rattle.std.specs.List.{All, AllZip, Contains}
use Rattle.jesc_text.specs.declared.place.Place.{Place}
use Rattle.jesc_ast.specs.declared.word.Word.{Word}
use Rattle.jesc_ast.specs.declared.word.TypeTree.{TypeTree}
use Rattle.jesc_ast.specs.declared.class.MethodTree.{MethodTree}
use Rattle.jesc_ast.specs.declared.class.ConstructorTree.{ConstructorTree}
use Rattle.jesc_ast.specs.declared.class.ParamTree.{ParamTree}
use Rattle.jesc_ast.specs.declared.class.MemberTree.{MemberTree}
use Rattle.jesc_ast.specs.declared.class.MemberNode.{MemberNode}
use Rattle.jesc_ast.specs.declared.class.MemberNode.TheVariants as members
use Rattle.jesc_ast.specs.Lines.{place_at}
use Rattle.jesc_ast.specs.Trees.{optional_view}
use Rattle.jesc_tree.specs.declared.ids.ClassId.{ClassId}
use Rattle.jesc_tree.specs.declared.ty.Ty.{Ty}
use Rattle.jesc_tree.specs.declared.ty.Ty.TheVariants as ty
use Rattle.jesc_tree.specs.declared.ty.Elem.{Elem}
use Rattle.jesc_tree.specs.declared.ty.Elem.TheVariants as elem
use Rattle.jesc_tree.specs.declared.class.Class.{Class}
use Rattle.jesc_tree.specs.declared.class.Field.{Field}
use Rattle.jesc_tree.specs.declared.class.Method.{Method}
use Rattle.jesc_tree.specs.declared.class.Param.{Param}
use Rattle.jesc_tree.specs.declared.spec.Case.{Case}
use Rattle.jesc_tree.specs.declared.spec.TSpec.{TSpec}
use Rattle.jesc_tree.specs.declared.spec.TOnly.{TOnly}
use Rattle.jesc_tree.specs.Trees.{Expression, expression, truth, view}
use Rattle.jesc_tree.specs.Programs.{nowhere, predefined}
use Rattle.jesc_classes.specs.Headings.{Source, class_named}
use Rattle.jesc_classes.specs.Resolved.{IsId, AreHeadings}
use Rattle.jesc_members.specs.Fields.{FieldOf, fields_of, has, is_model, is_ghost}
use Rattle.jesc_members.specs.Methods.{may_be_null, is_static, is_private}
use Rattle.jesc_member_rules.specs.Modifiers.{optional_value}
use Rattle.jesc_members.specs.Groups.{IsMember}

-- ---- types

abbrev pub IsReference : List Source → List ℕ → List ℕ → ClassId → Type 0
IsReference given order name c = (number : ℕ) × (class_named given name ≡ Some number) × IsId order number c.0

abbrev pub IsElem : List Source → List ℕ → List ℕ → Elem → Type 0
IsElem given order base elem.Int = base ≡ codes "int"
IsElem given order base elem.Long = base ≡ codes "long"
IsElem given order base elem.Bool = base ≡ codes "boolean"
IsElem given order base (elem.Ref c) = IsReference given order base c

-- the type that a written one means
abbrev pub IsType : List Source → List ℕ → TypeTree → Ty → Type 0
IsType given order t ty.Void = ⊥
IsType given order t ty.Null = ⊥
IsType given order t ty.Int = (t.array ≡ false) × (t.base ≡ codes "int")
IsType given order t ty.Long = (t.array ≡ false) × (t.base ≡ codes "long")
IsType given order t ty.Bool = (t.array ≡ false) × (t.base ≡ codes "boolean")
IsType given order t (ty.Ref c) = (t.array ≡ false) × IsReference given order t.base c
IsType given order t (ty.Array e) = (t.array ≡ true) × IsElem given order t.base e

abbrev pub IsResult : List Source → List ℕ → Option TypeTree → Ty → Type 0
IsResult given order None t = t ≡ ty.Void
IsResult given order (Some written) t = IsType given order written t

-- ---- fields

-- the numbers of a class's fields
abbrev pub numbers_in : ℕ → ℕ → List FieldOf → List ℕ
numbers_in class n [] = []
numbers_in class n (f ∷ fs) = if nat_eq class f.class then n ∷ numbers_in class (n + 1) fs else numbers_in class (n + 1) fs

abbrev pub joined : {A : Type 0} → List (List A) → List A
joined [] = []
joined (xs ∷ xss) = xs ++ joined xss

-- the numbers of all fields in the order of their ids: that of their classes' ids, and in a class as they are written
abbrev pub field_order : List Source → List ℕ → List ℕ
field_order given order = joined (map (λ class. numbers_in class 0 (fields_of given)) order)

-- the value of a static field
abbrev pub constant_of : FieldOf → Option ℤ
constant_of f = if (not_spec && has (codes "static") f.tree.modifiers) then optional_value (optional_view f.tree.value) else None
  where
    not_spec : Bool
    not_spec = by f.is_spec
      where
        by : Bool → Bool
        by true = false
        by false = true

abbrev pub Rise : List ℕ → Type 0
Rise xs = (i j : ℕ) → i < j → j < length xs → get_or xs i 0 < get_or xs j 0

-- what the table holds of the field of this number
pub record IsField (given : List Source) (order : List ℕ) (n : ℕ) (x : Field) : Type 0 where
  pub f : FieldOf
  pub numbered : slice_get (fields_of given) n ≡ Some f
  pub name : x.name ≡ f.tree.name.text
  pub place : x.place ≡ place_at f.source.lines f.tree.name.span
  pub owner : IsId order f.class x.owner.0
  pub type_of : IsType given order f.tree.ty x.ty
  pub nullable : x.nullable ≡ (may_be_null f.tree.modifiers || is_model f)
  pub final : x.is_final ≡ has (codes "final") f.tree.modifiers
  pub ghost_one : x.is_ghost ≡ is_ghost f
  pub model_one : x.is_model ≡ is_model f
  pub constant : x.constant ≡ constant_of f
  pub init : x.init ≡ None
  pub rising : Rise (map (λ m. m.0) x.members)
  -- all that are in it, directly or not, where it is a model field
  pub members : (m id : ℕ) → IsId (field_order given order) m id → (Contains (map (λ m. m.0) x.members) id → IsMember given m n) × (IsMember given m n → Contains (map (λ m. m.0) x.members) id)

-- ---- methods and constructors

-- the constructors that no file has, and those and the methods that are written, with the numbers of their classes
pub data Callable : Type 0 where
  predefined_one : ℕ → Callable
  generated : ℕ → Source → Callable
  written_constructor : ℕ → Source → ConstructorTree → Callable
  written_method : ℕ → Source → MethodTree → Callable

abbrev pub callable_in : ℕ → Source → MemberNode → List Callable
callable_in class s members.Empty = []
callable_in class s (members.Field f) = []
callable_in class s (members.SpecField f) = []
callable_in class s (members.Invariant i) = []
callable_in class s (members.Represents r) = []
callable_in class s (members.Method m) = written_method class s m ∷ []
callable_in class s (members.Constructor c) = written_constructor class s c ∷ []

abbrev pub has_constructor : List MemberTree → Bool
has_constructor [] = false
has_constructor (m ∷ ms) = is_constructor m.node || has_constructor ms
  where
    is_constructor : MemberNode → Bool
    is_constructor members.Empty = false
    is_constructor (members.Field f) = false
    is_constructor (members.SpecField f) = false
    is_constructor (members.Invariant i) = false
    is_constructor (members.Represents r) = false
    is_constructor (members.Method m) = false
    is_constructor (members.Constructor c) = true

-- a class without a constructor has a generated one (JLS 8.8.9), and an interface has none
abbrev pub generated_for : ℕ → Source → List Callable
generated_for class s = if (s.tree.is_interface || has_constructor s.tree.members) then [] else (generated class s ∷ [])

abbrev pub callables_of : ℕ → Source → List Callable
callables_of class s = generated_for class s ++ joined (map (λ m. callable_in class s m.node) s.tree.members)

abbrev pub callables_at : List Source → ℕ → List Callable
callables_at given number = if nat_lt number 7 then (predefined_one number ∷ []) else by (slice_get (map (λ s. s) given) (minus_seven number))
  where
    minus_seven : ℕ → ℕ
    minus_seven (suc (suc (suc (suc (suc (suc (suc n))))))) = n
    minus_seven n = 0

    by : Option Source → List Callable
    by None = []
    by (Some s) = callables_of number s

-- all methods and constructors in the order of their ids: that of their classes' ids, the generated one of a class first
abbrev pub callable_order : List Source → List ℕ → List Callable
callable_order given order = joined (map (callables_at given) order)

pub record IsParam (given : List Source) (order : List ℕ) (p : ParamTree) (x : Param) : Type 0 where
  pub name : x.name ≡ p.name.text
  pub type_of : IsType given order p.ty x.ty
  pub nullable : x.nullable ≡ may_be_null p.modifiers

-- a class that `throws` names
abbrev pub IsThrown : List Source → List ℕ → Word → ClassId → Type 0
IsThrown given order w c = IsReference given order w.text c

abbrev pub literal_true : Place → Expression
literal_true p = expression p p p ty.Bool (truth true)

-- `requires true; ensures true; assignable \nothing; signals_only \nothing;`, all at this place
pub record IsHarmless (p : Place) (c : Case) : Type 0 where
  pub place : c.place ≡ p
  pub demands : view c.demands ≡ literal_true p
  pub promises : (s : TSpec) × (c.promises ≡ s ∷ []) × (s.by ≡ p) × (view s.e ≡ literal_true p)
  pub signals : c.signals ≡ []
  pub signals_only : (o : TOnly) × (c.signals_only ≡ o ∷ []) × (o.by ≡ p) × (o.classes ≡ [])
  pub frame : (c.frame.by ≡ p) × (c.frame.all ≡ false) × (c.frame.stores ≡ [])

-- a constructor that no file has: with no parameters and one case
pub record IsUnwritten (text : List ℕ) (at : Place) (class : ℕ) (order : List ℕ) (x : Method) : Type 0 where
  pub name : x.name ≡ text
  pub place : x.place ≡ at
  pub owner : IsId order class x.owner.0
  pub params : x.params ≡ []
  pub result : x.result ≡ ty.Void
  pub result_nullable : x.result_nullable ≡ false
  pub static : x.is_static ≡ false
  pub private : x.is_private ≡ false
  pub abstract : x.is_abstract ≡ false
  pub constructor_one : x.is_constructor ≡ true
  pub pure : x.is_pure ≡ false
  pub helper : x.is_helper ≡ false
  pub throws : x.throws ≡ []
  pub cases : (c : Case) × (x.cases ≡ c ∷ []) × IsHarmless at c
  pub body : x.body ≡ None

pub record IsWrittenConstructor (given : List Source) (order : List ℕ) (class : ℕ) (s : Source) (c : ConstructorTree) (x : Method) : Type 0 where
  pub name : x.name ≡ c.name.text
  pub place : x.place ≡ place_at s.lines c.name.span
  pub owner : IsId order class x.owner.0
  pub params : AllZip (IsParam given order) c.params x.params
  pub result : x.result ≡ ty.Void
  pub result_nullable : x.result_nullable ≡ false
  pub static : x.is_static ≡ false
  pub private : x.is_private ≡ has (codes "private") c.modifiers
  pub abstract : x.is_abstract ≡ false
  pub constructor_one : x.is_constructor ≡ true
  pub pure : x.is_pure ≡ has (codes "pure") c.modifiers
  pub helper : x.is_helper ≡ false
  pub throws : AllZip (IsThrown given order) c.throws x.throws
  pub cases : x.cases ≡ []
  pub body : x.body ≡ None

pub record IsWrittenMethod (given : List Source) (order : List ℕ) (class : ℕ) (s : Source) (m : MethodTree) (x : Method) : Type 0 where
  pub name : x.name ≡ m.name.text
  pub place : x.place ≡ place_at s.lines m.name.span
  pub owner : IsId order class x.owner.0
  pub params : AllZip (IsParam given order) m.params x.params
  pub result : IsResult given order m.result x.result
  pub result_nullable : x.result_nullable ≡ may_be_null m.modifiers
  pub static : x.is_static ≡ is_static m
  pub private : x.is_private ≡ is_private m
  pub abstract : x.is_abstract ≡ (s.tree.is_interface || has (codes "abstract") m.modifiers)
  pub constructor_one : x.is_constructor ≡ false
  pub pure : x.is_pure ≡ has (codes "pure") m.modifiers
  pub helper : x.is_helper ≡ has (codes "helper") m.modifiers
  pub throws : AllZip (IsThrown given order) m.throws x.throws
  pub cases : x.cases ≡ []
  pub body : x.body ≡ None

abbrev pub predefined_name : ℕ → List ℕ
predefined_name class = get_or (map (λ p. p.0) predefined) class []

abbrev pub IsMethod : List Source → List ℕ → Callable → Method → Type 0
IsMethod given order (predefined_one class) x = IsUnwritten (predefined_name class) nowhere class order x
IsMethod given order (generated class s) x = IsUnwritten s.tree.name.text (place_at s.lines s.tree.name.span) class order x
IsMethod given order (written_constructor class s c) x = IsWrittenConstructor given order class s c x
IsMethod given order (written_method class s m) x = IsWrittenMethod given order class s m x

-- ---- the tables

-- the numbers from n on, so many
abbrev pub counted : ℕ → ℕ → List ℕ
counted n zero = []
counted n (suc k) = n ∷ counted (n + 1) k

pub record AreMembers (given : List Source) (order : List ℕ) (classes : List Class) (fields : List Field) (methods : List Method) : Type 0 where
  pub each_field : AllZip (IsField given order) (field_order given order) fields
  pub each_method : AllZip (IsMethod given order) (callable_order given order) methods
  -- each class has as many ids of fields and methods as it declares, and all together they are all ids in order
  pub field_counts : map (λ c. length c.fields) classes ≡ map (λ class. length (numbers_in class 0 (fields_of given))) order
  pub field_ids : map (λ f. f.0) (joined (map (λ c. c.fields) classes)) ≡ counted 0 (length fields)
  pub method_counts : map (λ c. length c.methods) classes ≡ map (λ class. length (callables_at given class)) order
  pub method_ids : map (λ m. m.0) (joined (map (λ c. c.methods) classes)) ≡ counted 0 (length methods)
  pub invariants : All (λ c. c.invariants ≡ []) classes
  pub represents : All (λ c. c.represents ≡ []) classes

pub record IsProgramOf (given : List Source) (classes : List Class) (fields : List Field) (methods : List Method) : Type 0 where
  pub headings : AreHeadings given classes
  pub members : AreMembers given headings.order classes fields methods
