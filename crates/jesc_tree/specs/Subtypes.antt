-- Which type lies below which, and which fits where another is wanted.
use Rattle.std.specs.Prelude.{◌≡◌, ℕ, true, Option, Some, None, List, [], ◌∷◌, ◌++◌, map}
use Rattle.std.specs.List.{Contains, slice_get}
use Rattle.jesc_tree.specs.declared.ids.ClassId.{ClassId}
use Rattle.jesc_tree.specs.declared.ty.Elem.{Elem}
use Rattle.jesc_tree.specs.declared.ty.Elem.TheVariants as elem
use Rattle.jesc_tree.specs.declared.ty.Ty.{Ty}
use Rattle.jesc_tree.specs.declared.ty.Ty.TheVariants.{Null, Int, Long, Ref, Array}
use Rattle.jesc_tree.specs.declared.class.Class.{Class}

abbrev pub class_id : ℕ → ClassId
class_id n = record { 0 = n }

-- the class with that id
abbrev pub IsAt : List Class → ℕ → Class → Type 0
IsAt classes i c = slice_get classes i ≡ Some c

abbrev pub parent_list : Option ClassId → List ℕ
parent_list None = []
parent_list (Some p) = p.0 ∷ []

-- the classes and interfaces that a heading names, the superclass first
abbrev pub supertypes : Class → List ℕ
supertypes c = parent_list c.parent ++ map (λ i. i.0) c.interfaces

-- the first class names the second in its heading
abbrev pub Extends : List Class → ℕ → ℕ → Type 0
Extends classes a b = (c : Class) × IsAt classes a c × Contains (supertypes c) b

-- headings lead from the first class to the second
pub data Reaches (classes : List Class) : ℕ → ℕ → Type 0 where
  itself : (a : ℕ) → Reaches classes a a
  further : (a b c : ℕ) → Extends classes a b → Reaches classes b c → Reaches classes a c

-- the subtypes among reference types (JLS 4.10.2, 4.10.3): reflexive, transitive, with the pairs of the headings;
-- interfaces and arrays lie below Object, which is class 0, and an array below that of a supertype of its elements
pub data Subtype (classes : List Class) : Ty → Ty → Type 0 where
  reflexive : (t : Ty) → Subtype classes t t
  transitive : (s t u : Ty) → Subtype classes s t → Subtype classes t u → Subtype classes s u
  declared : (a b : ℕ) → Extends classes a b → Subtype classes (Ref (class_id a)) (Ref (class_id b))
  below_object : (a : ℕ) (c : Class) → IsAt classes a c → c.is_interface ≡ true → Subtype classes (Ref (class_id a)) (Ref (class_id 0))
  array_below_object : (e : Elem) → Subtype classes (Array e) (Ref (class_id 0))
  array : (a b : ℕ) → Subtype classes (Ref (class_id a)) (Ref (class_id b)) → Subtype classes (Array (elem.Ref (class_id a))) (Array (elem.Ref (class_id b)))

-- a value of the first type may stand where the second is wanted (JLS 5.2, 5.3)
pub data Fits (classes : List Class) : Ty → Ty → Type 0 where
  subtype : (s t : Ty) → Subtype classes s t → Fits classes s t
  widened : Fits classes Int Long
  null_object : (c : ClassId) → Fits classes Null (Ref c)
  null_array : (e : Elem) → Fits classes Null (Array e)
