-- What the tables of a program say of its graph and of its rows of members.
use Rattle.std.proofs.Common.{◌≡◌, ℕ, zero, suc, ◌<◌, ◌^◌, Option, Some, None, List, [], ◌∷◌, ◌++◌, length, map, get_or, refl, ap, sym, ◌∙◌, subst, arith}
use Rattle.std.specs.List.{All, Contains, slice_get}
use Rattle.std.proofs.lemmas.List.{get_or_append_left, get_or_default, length-append, length-map}
use Rattle.std.proofs.lemmas.List.Elements.{All-contains, All-nil}
use Rattle.std.proofs.lemmas.Option.{get_or_from_slice_get, slice_get_within}
use Rattle.std.proofs.Math.Logic.{∥∥₁_elim}
use Rattle.std.proofs.Props.{props}
use Rattle.jesc_tree.specs.declared.class.Class.{Class}
use Rattle.jesc_tree.specs.declared.class.Field.{Field}
use Rattle.jesc_tree.specs.declared.class.Method.{Method}
use Rattle.jesc_tree.specs.declared.ids.FieldId.{FieldId}
use Rattle.jesc_tree.specs.declared.ids.MethodId.{MethodId}
use Rattle.jesc_tree.specs.Ids.{Id, of_class, of_field, of_method, class_ids, each, if_there, spec_ids, tree_ids}
use Rattle.jesc_tree.specs.Programs.{IsInRange, IsProgram}
use Rattle.jesc_tree.specs.Subtypes.{supertypes}
use Rattle.jesc_classes.specs.Order.{Graph, IsWithin, supers}
use Rattle.jesc_lookup.specs.Numbering.{IsArranged}
use Rattle.jesc_meanings.specs.Labels.{field_label, method_label}
use Rattle.jesc_meanings.specs.Layered.{AreRows}
use Rattle.jesc_meanings.specs.Meanings.{field_rows, graph_of, method_rows}
use Rattle.jesc_meanings.specs.Order.{IsFalling}

-- ---- parts of lists

left_all : {X : Type 0} (P : X → Type 0) (xs ys : List X) → All P (xs ++ ys) → All P xs
left_all P xs ys h k d l = subst P (get_or_append_left xs ys d k l) (h k d (omega (arith, l, length-append xs ys)))

right_all : {X : Type 0} (P : X → Type 0) (xs ys : List X) → All P (xs ++ ys) → All P ys
right_all P [] ys h = h
right_all P (x ∷ xs) ys h = right_all P xs ys (λ k d l. h (suc k) d (omega (arith, l)))

moved_all : {X Y : Type 0} (P : X → Type 0) (Q : ℕ → Type 0) (f : Y → X) (g : Y → ℕ) → ((y : Y) → P (f y) → Q (g y)) → (ys : List Y) → All P (map f ys) → All Q (map g ys)
moved_all P Q f g h [] all k d l = absurd (omega (arith, l))
moved_all P Q f g h (y ∷ ys) all zero d l = h y (all zero (f y) (omega arith))
moved_all P Q f g h (y ∷ ys) all (suc k) d l = moved_all P Q f g h ys (λ j e m. all (suc j) e (omega (arith, m))) k d (omega (arith, l))

-- ---- rows of classes

module _ (f : Class → List ℕ) where
  row_at : (classes : List Class) (i : ℕ) (c : Class) → slice_get classes i ≡ Some c → get_or (map f classes) i [] ≡ f c
  row_at [] i c e = absurd (cc)
  row_at (x ∷ classes) zero c e = let s : x ≡ c = cc in ap f s
  row_at (x ∷ classes) (suc i) c e = row_at classes i c e

  no_row : (classes : List Class) (i : ℕ) → slice_get classes i ≡ None → get_or (map f classes) i [] ≡ []
  no_row [] i e = refl
  no_row (x ∷ classes) zero e = absurd (cc)
  no_row (x ∷ classes) (suc i) e = no_row classes i e

  -- what is true of each class's row and of the empty one
  every_row : (P : ℕ → ℕ → Type 0) (classes : List Class) → ((i : ℕ) (c : Class) → slice_get classes i ≡ Some c → All (P i) (f c)) → (i : ℕ) → All (P i) (get_or (map f classes) i [])
  every_row P classes h i = by (slice_get classes i) refl
    where
      by : (o : Option Class) → slice_get classes i ≡ o → All (P i) (get_or (map f classes) i [])
      by (Some c) e = subst (λ row. All (P i) row) (sym (row_at classes i c e)) (h i c e)
      by None e = subst (λ row. All (P i) row) (sym (no_row classes i e)) (All-nil (P i))

  rows_small : (n : ℕ) (classes : List Class) → ((i : ℕ) (c : Class) → slice_get classes i ≡ Some c → All (λ x. x < n) (f c)) → All (All (λ x. x < n)) (map f classes)
  rows_small n classes h k d l = subst (λ row. All (λ x. x < n) row) (sym (get_or_default (map f classes) k d [] l)) (every_row (λ i x. x < n) classes h k)

-- ---- the graph

module _ (graph : Graph) (falls : IsFalling graph) where
  within : IsWithin graph
  within k d l j e m =
      let row = get_or_default graph k d [] l in
      let small = falls k j e (subst (λ (r : List ℕ). j < length r) row m) in
      let is : get_or (get_or graph k d) j e ≡ get_or (supers graph k) j e = ap (λ r. get_or r j e) row in
      omega (arith, small, is, l)

  -- the numbers themselves are an order that has supertypes first
  pub arranged : length graph < 2 ^ 32 → (order : List ℕ) → length order ≡ length graph → ((i : ℕ) → i < length graph → get_or order i 0 ≡ i) → IsArranged graph order
  arranged few order long are = record {
    within = within;
    few = few;
    whole = λ class l. (class, omega (arith, l, long), get_or_default order class class 0 (omega (arith, l, long)) ∙ are class l);
    count = long;
    below = λ i l. omega (arith, are i (omega (arith, l, long)), l, long);
    apart = λ i j less l e. omega (arith, are i (omega (arith, less, l, long)), are j (omega (arith, l, long)), less, e);
    first = λ i j l m c.
        let a = are i (omega (arith, l, long)) in
        let b = are j (omega (arith, m, long)) in
        All-contains (λ above. above < i) (supers graph i) j (falls i) (subst (λ x. Contains (supers graph i) x) b (subst (λ x. Contains (supers graph x) (get_or order j 0)) a c));
  }

-- ---- a program

module _ (classes : List Class) (fields : List Field) (methods : List Method) (p : IsProgram classes fields methods) where
  pub falling : IsFalling (graph_of classes)
  falling class = every_row supertypes (λ i s. s < i) classes p.supertypes_first class

  abbrev InRange : Id → Type 0
  InRange id = IsInRange classes fields methods id

  of_class_at : (i : ℕ) (c : Class) → slice_get classes i ≡ Some c → All InRange (class_ids c)
  of_class_at i c e = subst (λ x. All InRange (class_ids x)) (get_or_from_slice_get classes i c c e) (p.of_classes i c (slice_get_within classes i c e))

  module _ (c : Class) (h : All InRange (class_ids c)) where
    abbrev types : List Id
    types = if_there (λ x. of_class x ∷ []) c.parent ++ map of_class c.interfaces

    members : All InRange ((types ++ map of_field c.fields) ++ map of_method c.methods)
    members =
        left_all InRange ((types ++ map of_field c.fields) ++ map of_method c.methods) (each spec_ids c.invariants)
        (left_all InRange (((types ++ map of_field c.fields) ++ map of_method c.methods) ++ each spec_ids c.invariants) (each (λ r. of_field r.0 ∷ tree_ids r.1) c.represents) h)

    fields_in : All (λ x. x < length fields) (map (λ (f : FieldId). f.0) c.fields)
    fields_in =
        moved_all InRange (λ x. x < length fields) of_field (λ f. f.0) (λ f r. r) c.fields
        (right_all InRange types (map of_field c.fields) (left_all InRange (types ++ map of_field c.fields) (map of_method c.methods) members))

    methods_in : All (λ x. x < length methods) (map (λ (m : MethodId). m.0) c.methods)
    methods_in = moved_all InRange (λ x. x < length methods) of_method (λ m. m.0) (λ m r. r) c.methods (right_all InRange (types ++ map of_field c.fields) (map of_method c.methods) members)

  fields_small : All (All (λ x. x < length fields)) (field_rows classes)
  fields_small = rows_small (λ (c : Class). map (λ f. f.0) c.fields) (length fields) classes (λ i c e. fields_in c (of_class_at i c e))

  pub methods_small : All (All (λ x. x < length methods)) (method_rows classes)
  methods_small = rows_small (λ (c : Class). map (λ m. m.0) c.methods) (length methods) classes (λ i c e. methods_in c (of_class_at i c e))

  pub are_field_rows : AreRows (graph_of classes) (map field_label fields) (field_rows classes)
  are_field_rows = record {
    count = length-map classes (λ (c : Class). map (λ f. f.0) c.fields) ∙ sym (length-map classes supertypes);
    small = subst (λ n. All (All (λ x. x < n)) (field_rows classes)) (sym (length-map fields field_label)) fields_small;
  }

  pub are_method_rows : AreRows (graph_of classes) (map method_label methods) (method_rows classes)
  are_method_rows = record {
    count = length-map classes (λ (c : Class). map (λ m. m.0) c.methods) ∙ sym (length-map classes supertypes);
    small = subst (λ n. All (All (λ x. x < n)) (method_rows classes)) (sym (length-map methods method_label)) methods_small;
  }

-- ---- what a program whose tables agree gives

module _ (classes : List Class) (fields : List Field) (methods : List Method) (program : ∥ IsProgram classes fields methods ∥₁) where
  pub classes_arranged : length classes < 2 ^ 32 → (graph : Graph) → graph ≡ graph_of classes → (order list : List ℕ) → order ≡ list → length list ≡ length graph → ((i : ℕ) → i < length graph → get_or list i 0 ≡ i) → IsArranged graph order
  classes_arranged few graph is order list same long are =
      subst (λ g. IsArranged g order) (sym is)
      (arranged (graph_of classes) (∥∥₁_elim program (hlevel props) (falling classes fields methods)) (omega (arith, few, length-map classes supertypes)) order
      (ap length same ∙ long ∙ ap length is) (λ i l. ap (λ xs. get_or xs i 0) same ∙ are i (subst (λ g. i < length g) (sym is) l)))

  pub methods_inside : All (All (λ m. m < length methods)) (method_rows classes)
  methods_inside = ∥∥₁_elim program (hlevel props) (methods_small classes fields methods)
