-- What labels mean is what names mean.
use Rattle.std.proofs.Common.{◌≡◌, ℕ, zero, suc, ◌+◌, Bool, true, false, ◌&&◌, not, Some, None, List, [], ◌∷◌, map, length, get_or, refl, ap, ◌∙◌, bytes_eq, nat_eq, if◌then◌else◌}
use Rattle.jesc_tree.specs.declared.class.Class.{Class}
use Rattle.jesc_tree.specs.declared.class.Field.{Field}
use Rattle.jesc_tree.specs.declared.class.Method.{Method}
use Rattle.jesc_meanings.specs.Labels.{class_label, field_label, first_labelled, is_labelled, method_label}
use Rattle.jesc_meanings.specs.Layered.{own_labelled}
use Rattle.jesc_meanings.specs.Meanings.{class_named, field_rows, first_at, first_that, is_field_named, is_method_named, method_rows, own_field, own_method}

and_true : (b : Bool) → (b && true) ≡ b
and_true true = refl
and_true false = refl

named_class : (name : List ℕ) (n : ℕ) (classes : List Class) → first_at (is_labelled (name, 0)) n (map class_label classes) ≡ first_at (λ (c : Class). bytes_eq name c.name) n classes
named_class name n [] = refl
named_class name n (c ∷ classes) =
    ap (λ b. if b then Some n else first_at (is_labelled (name, 0)) (n + 1) (map class_label classes)) (and_true (bytes_eq name c.name))
    ∙ ap (λ r. if bytes_eq name c.name then Some n else r) (named_class name (n + 1) classes)

pub class_is : (classes : List Class) (name : List ℕ) → first_labelled (name, 0) (map class_label classes) ≡ class_named classes name
class_is classes name = named_class name 0 classes

-- ---- tests

field_test : (fields : List Field) (name : List ℕ) (i : ℕ) → is_labelled (name, 0) (get_or (map field_label fields) i None) ≡ is_field_named fields name i
field_test [] name i = refl
field_test (f ∷ fields) name zero = and_true (bytes_eq name f.name)
field_test (f ∷ fields) name (suc i) = field_test fields name i

method_here : (name : List ℕ) (count : ℕ) (m : Method) → is_labelled (name, count) (method_label m) ≡ (not m.is_constructor && (bytes_eq name m.name && nat_eq count (length m.params)))
method_here name count m = by m.is_constructor
  where
    by : (b : Bool) → is_labelled (name, count) (if b then None else Some (m.name, length m.params)) ≡ (not b && (bytes_eq name m.name && nat_eq count (length m.params)))
    by true = refl
    by false = refl

method_test : (methods : List Method) (name : List ℕ) (count i : ℕ) → is_labelled (name, count) (get_or (map method_label methods) i None) ≡ is_method_named methods name count i
method_test [] name count i = refl
method_test (m ∷ methods) name count zero = method_here name count m
method_test (m ∷ methods) name count (suc i) = method_test methods name count i

same_that : (f g : ℕ → Bool) → ((i : ℕ) → f i ≡ g i) → (ids : List ℕ) → first_that f ids ≡ first_that g ids
same_that f g h [] = refl
same_that f g h (i ∷ ids) = ap (λ b. if b then Some i else first_that f ids) (h i) ∙ ap (λ r. if g i then Some i else r) (same_that f g h ids)

pub field_own : (classes : List Class) (fields : List Field) (name : List ℕ) (class : ℕ) → own_labelled (map field_label fields) (field_rows classes) (name, 0) class ≡ own_field classes fields name class
field_own classes fields name class = same_that (λ i. is_labelled (name, 0) (get_or (map field_label fields) i None)) (is_field_named fields name) (field_test fields name) (get_or (field_rows classes) class [])

pub method_own : (classes : List Class) (methods : List Method) (name : List ℕ) (count class : ℕ) → own_labelled (map method_label methods) (method_rows classes) (name, count) class ≡ own_method classes methods name count class
method_own classes methods name count class =
    same_that (λ i. is_labelled (name, count) (get_or (map method_label methods) i None)) (is_method_named methods name count) (method_test methods name count) (get_or (method_rows classes) class [])
