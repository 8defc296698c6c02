-- The tables make a lawful program.
use Rattle.std.proofs.Common.{◌≡◌, ℕ, zero, suc, ◌<◌, true, List, [], ◌∷◌, ◌++◌, map, take, length, get_or, Contains, All, ◌⊎◌, inl, inr, Option, Some, None, slice_get, refl, ap, sym, ◌∙◌, subst, arith}
use Rattle.std.proofs.lemmas.List.{length-map, take-map}
use Rattle.std.proofs.lemmas.List.Elements.{All-from_recursion, Contains-append_left, Contains-append_right}
use Rattle.std.specs.List.{AllByRecursion, AllZip}
use Rattle.jesc_text.specs.declared.place.Place.{Place}
use Rattle.jesc_tree.specs.declared.ids.ClassId.{ClassId}
use Rattle.jesc_tree.specs.declared.ids.FieldId.{FieldId}
use Rattle.jesc_tree.specs.declared.ids.MethodId.{MethodId}
use Rattle.jesc_tree.specs.declared.ty.Ty.{Ty}
use Rattle.jesc_tree.specs.declared.ty.Ty.TheVariants as ty
use Rattle.jesc_tree.specs.declared.ty.Elem.TheVariants as elem
use Rattle.jesc_tree.specs.declared.spec.Case.{Case}
use Rattle.jesc_tree.specs.declared.class.Class.{Class}
use Rattle.jesc_tree.specs.declared.class.Field.{Field}
use Rattle.jesc_tree.specs.declared.class.Method.{Method}
use Rattle.jesc_tree.specs.declared.class.Param.{Param}
use Rattle.jesc_tree.specs.Ids.{Id, of_class, of_field, of_method, class_ids, field_ids, method_ids, case_ids, ty_ids, if_there, each, init_ids}
use Rattle.jesc_tree.specs.Subtypes.{IsAt, parent_list, supertypes}
use Rattle.jesc_tree.specs.Programs.{IsBare, IsInRange, IsLawfulHeading}
use Rattle.jesc_ast.specs.declared.word.Word.{Word}
use Rattle.jesc_ast.specs.declared.word.TypeTree.{TypeTree}
use Rattle.jesc_ast.specs.declared.class.ParamTree.{ParamTree}
use Rattle.jesc_classes.specs.Headings.{Source}
use Rattle.jesc_classes.specs.Resolved.{IsId, IsHeading}
use Rattle.jesc_classes.specs.Entries.{HasNoMembers}
use Rattle.jesc_classes.specs.laws.Lawful.{inside, value, there, of_each, each_at}
use Rattle.jesc_names.specs.Program.{IsType, IsResult, IsMethod, IsParam, IsThrown, IsHarmless, IsUnwritten, Callable, predefined_one, generated, written_constructor, written_method, joined, counted, field_order}
use Rattle.jesc_names.specs.TablesRows.{plain, IsRow}
use Rattle.jesc_names.proofs.TablesZips.{counted_below, in_joined}

-- ---- reading lists

from_each : {X Y : Type 0} (f : X → Y) (xs : List X) (i : ℕ) (y : Y) → slice_get (map f xs) i ≡ Some y → (x : X) × (slice_get xs i ≡ Some x) × (f x ≡ y)
from_each f [] i y e = cc
from_each f (x ∷ xs) zero y e = (x, refl, cc)
from_each f (x ∷ xs) (suc i) y e = from_each f xs i y e

both_all : {X : Type 0} (P : X → Type 0) (xs ys : List X) → AllByRecursion P xs → AllByRecursion P ys → AllByRecursion P (xs ++ ys)
both_all P [] ys h k = k
both_all P (x ∷ xs) ys h k = (h.0, both_all P xs ys h.1 k)

later : (x : ℕ) (xs : List ℕ) (q : ℕ) → Contains xs q → Contains (x ∷ xs) q
later x xs q c = (suc c.0, omega (arith, c.1), c.2)

-- ---- classes with other lists of fields and methods

module _ (classes filled : List Class) (same : map plain filled ≡ map plain classes) where
  pub same_length : length filled ≡ length classes
  same_length = let e : length (map plain filled) ≡ length (map plain classes) = ap (λ (xs : List Class). length xs) same in omega (arith, e, length-map filled plain, length-map classes plain)

  -- the class before
  pub before : (i : ℕ) (c : Class) → IsAt filled i c → (d : Class) × IsAt classes i d × (plain d ≡ plain c)
  before i c at = from_each plain classes i (plain c) (subst (λ xs. slice_get xs i ≡ Some (plain c)) same (of_each plain filled i c at))

  through : {X : Type 0} (f : Class → X) → ((c : Class) → f (plain c) ≡ f c) → (xs : List Class) → map f (map plain xs) ≡ map f xs
  through f h [] = refl
  through f h (x ∷ xs) = (λ i. h x i ∷ through f h xs i)

  abbrev row_of : Class → List ℕ × List ℕ
  row_of c = (c.name, parent_list c.parent)

  pub names_same : map row_of (take 7 filled) ≡ map row_of (take 7 classes)
  names_same =
      sym (through row_of (λ c. refl) (take 7 filled))
      ∙ ap (map row_of) (sym (take-map plain 7 filled) ∙ ap (take 7) same ∙ take-map plain 7 classes)
      ∙ through row_of (λ c. refl) (take 7 classes)

  heading_plain : (given : List Source) (order : List ℕ) (s : Source) (c : Class) → IsHeading given order s c → IsHeading given order s (plain c)
  heading_plain given order s c h = record { name = h.name; place = h.place; is_interface = h.is_interface; is_abstract = h.is_abstract; parent = h.parent; interfaces = h.interfaces }

  heading_back : (given : List Source) (order : List ℕ) (s : Source) (c : Class) → IsHeading given order s (plain c) → IsHeading given order s c
  heading_back given order s c h = record { name = h.name; place = h.place; is_interface = h.is_interface; is_abstract = h.is_abstract; parent = h.parent; interfaces = h.interfaces }

  pub heading_same : (given : List Source) (order : List ℕ) (s : Source) (c d : Class) → plain d ≡ plain c → IsHeading given order s d → IsHeading given order s c
  heading_same given order s c d e h = heading_back given order s c (subst (IsHeading given order s) e (heading_plain given order s d h))

  pub lawful_same : ((i : ℕ) (c : Class) → IsAt classes i c → IsLawfulHeading classes i c) → (i : ℕ) (c : Class) → IsAt filled i c → IsLawfulHeading filled i c
  lawful_same all i c at =
      let r = before i c at in
      let h = all i r.0 r.1 in
      record {
        own_name = λ j x there_x is.
            let p = before j x there_x in
            h.own_name j p.0 p.1 (ap (λ (y : Class). y.name) p.2 ∙ is ∙ sym (ap (λ (y : Class). y.name) r.2));
        superclass = (
          λ none. elim (h.superclass.0 (ap (λ (y : Class). y.parent) r.2 ∙ none)) [
            | inl z ↦ inl z
            | inr k ↦ inr (sym (ap (λ (y : Class). y.is_interface) r.2) ∙ k)
          ],
          λ s. sym (ap (λ (y : Class). y.parent) r.2) ∙ h.superclass.1 (by_kind r.0 r.2 s),
        );
        extends_class = λ p x e there_x.
            let q = before p x there_x in
            sym (ap (λ (y : Class). y.is_interface) q.2) ∙ h.extends_class p q.0 (ap (λ (y : Class). parent_list y.parent) r.2 ∙ e) q.1;
        interfaces = subst (λ (xs : List ClassId). All (λ s. (d : Class) → IsAt filled s.0 d → d.is_interface ≡ true) xs) (ap (λ (y : Class). y.interfaces) r.2)
            (λ k d l x there_x.
            let q = before (get_or r.0.interfaces k d).0 x there_x in
            sym (ap (λ (y : Class). y.is_interface) q.2) ∙ h.interfaces k d l q.0 q.1);
      }
    where
      by_kind : (d : Class) → plain d ≡ plain c → (i ≡ 0) ⊎ (c.is_interface ≡ true) → (i ≡ 0) ⊎ (d.is_interface ≡ true)
      by_kind d e (inl z) = inl z
      by_kind d e (inr k) = inr (ap (λ (y : Class). y.is_interface) e ∙ k)

  pub supertypes_same : ((i : ℕ) (c : Class) → IsAt classes i c → All (λ s. s < i) (supertypes c)) → (i : ℕ) (c : Class) → IsAt filled i c → All (λ s. s < i) (supertypes c)
  supertypes_same all i c at =
      let r = before i c at in
      subst (All (λ s. s < i)) (ap (λ (y : Class). parent_list y.parent ++ map (λ n. n.0) y.interfaces) r.2) (all i r.0 r.1)

  pub no_invariants : All HasNoMembers classes → All (λ c. c.invariants ≡ []) filled
  no_invariants none k d l =
      let r = before k (get_or filled k d) (there filled k d l) in
      sym (ap (λ (y : Class). y.invariants) r.2) ∙ (each_at HasNoMembers classes k r.0 none r.1).invariants

  pub no_represents : All HasNoMembers classes → All (λ c. c.represents ≡ []) filled
  no_represents none k d l =
      let r = before k (get_or filled k d) (there filled k d l) in
      sym (ap (λ (y : Class). y.represents) r.2) ∙ (each_at HasNoMembers classes k r.0 none r.1).represents

  pub bare_same : (i : ℕ) (c d : Class) → plain d ≡ plain c → IsBare d → c.fields ≡ [] → IsBare c
  bare_same i c d e h none = record {
    place = sym (ap (λ (y : Class). y.place) e) ∙ h.place;
    interfaces = sym (ap (λ (y : Class). y.interfaces) e) ∙ h.interfaces;
    is_class = sym (ap (λ (y : Class). y.is_interface) e) ∙ h.is_class;
    is_concrete = sym (ap (λ (y : Class). y.is_abstract) e) ∙ h.is_concrete;
    fields = none;
    invariants = sym (ap (λ (y : Class). y.invariants) e) ∙ h.invariants;
    represents = sym (ap (λ (y : Class). y.represents) e) ∙ h.represents;
  }

-- ---- ids in range

module _ (classes : List Class) (fields : List Field) (methods : List Method) where
  abbrev InRange : Id → Type 0
  InRange = IsInRange classes fields methods

  module _ (given : List Source) (order : List ℕ) (count : length classes ≡ length order) where
    of_id : (number : ℕ) (c : ClassId) → IsId order number c.0 → c.0 < length classes
    of_id number c e = omega (arith, count, inside order c.0 number e)

    of_type : (t : TypeTree) (x : Ty) → IsType given order t x → AllByRecursion InRange (ty_ids x)
    of_type t ty.Void h = tt
    of_type t ty.Null h = tt
    of_type t ty.Int h = tt
    of_type t ty.Long h = tt
    of_type t ty.Bool h = tt
    of_type t (ty.Ref c) h = (of_id h.1.0 c h.1.2, tt)
    of_type t (ty.Array elem.Int) h = tt
    of_type t (ty.Array elem.Long) h = tt
    of_type t (ty.Array elem.Bool) h = tt
    of_type t (ty.Array (elem.Ref c)) h = (of_id h.1.0 c h.1.2, tt)

    of_result : (t : Option TypeTree) (x : Ty) → IsResult given order t x → AllByRecursion InRange (ty_ids x)
    of_result None x h = subst (λ (y : Ty). AllByRecursion InRange (ty_ids y)) (sym h) tt
    of_result (Some t) x h = of_type t x h

    of_params : (ts : List ParamTree) (xs : List Param) → AllZip (IsParam given order) ts xs → AllByRecursion InRange (each (λ (p : Param). ty_ids p.ty) xs)
    of_params [] [] h = tt
    of_params [] (x ∷ xs) h = absurd h
    of_params (t ∷ ts) [] h = absurd h
    of_params (t ∷ ts) (x ∷ xs) h = both_all InRange (ty_ids x.ty) (each (λ (p : Param). ty_ids p.ty) xs) (of_type t.ty x.ty h.0.type_of) (of_params ts xs h.1)

    of_thrown : (ws : List Word) (xs : List ClassId) → AllZip (IsThrown given order) ws xs → AllByRecursion InRange (map of_class xs)
    of_thrown [] [] h = tt
    of_thrown [] (x ∷ xs) h = absurd h
    of_thrown (w ∷ ws) [] h = absurd h
    of_thrown (w ∷ ws) (x ∷ xs) h = (of_id h.0.0 x h.0.2, of_thrown ws xs h.1)

    -- a case whose clauses are literals names nothing
    of_case : (p : Place) (c : Case) → IsHarmless p c → AllByRecursion InRange (case_ids c)
    of_case p c h =
        let s = h.promises in
        let o = h.signals_only in
        let f = h.frame in
        rw (h.demands, s.1, s.3, h.signals, o.1, o.3, f.2) tt

    unwritten_ids : (text : List ℕ) (p : Place) (class : ℕ) (x : Method) → IsUnwritten text p class order x → AllByRecursion InRange (method_ids x)
    unwritten_ids text p class x h =
        let one = h.cases in
        rw (h.params, h.result, h.throws, one.1, h.body) (of_id class x.owner h.owner, both_all InRange (case_ids one.0 ++ []) [] (both_all InRange (case_ids one.0) [] (of_case p one.0 one.2) tt) tt)

    -- what is written has no cases and no body
    written_ids : (x : Method) → x.owner.0 < length classes → AllByRecursion InRange (each (λ (p : Param). ty_ids p.ty) x.params) → AllByRecursion InRange (ty_ids x.result) → AllByRecursion InRange (map of_class x.throws) → x.cases ≡ [] → x.body ≡ None → AllByRecursion InRange (method_ids x)
    written_ids x owner params result throws cases body =
        rw (cases, body) (
          owner,
          both_all InRange (each (λ (p : Param). ty_ids p.ty) x.params ++ ty_ids x.result ++ map of_class x.throws ++ []) []
              (both_all InRange (each (λ (p : Param). ty_ids p.ty) x.params ++ ty_ids x.result ++ map of_class x.throws) []
              (both_all InRange (each (λ (p : Param). ty_ids p.ty) x.params ++ ty_ids x.result) (map of_class x.throws)
              (both_all InRange (each (λ (p : Param). ty_ids p.ty) x.params) (ty_ids x.result) params result) throws) tt) tt,
        )

    of_method_row : (k : Callable) (x : Method) → IsMethod given order k x → AllByRecursion InRange (method_ids x)
    of_method_row (predefined_one class) x h = unwritten_ids _ _ class x h
    of_method_row (generated class s) x h = unwritten_ids _ _ class x h
    of_method_row (written_constructor class s c) x h =
        written_ids x (of_id class x.owner h.owner) (of_params c.params x.params h.params) (subst (λ (y : Ty). AllByRecursion InRange (ty_ids y)) (sym h.result) tt) (of_thrown c.throws x.throws h.throws) h.cases h.body
    of_method_row (written_method class s m) x h =
        written_ids x (of_id class x.owner h.owner) (of_params m.params x.params h.params) (of_result m.result x.result h.result) (of_thrown m.throws x.throws h.throws) h.cases h.body

    pub methods_in_range : (ks : List Callable) (xs : List Method) → AllZip (IsMethod given order) ks xs → AllByRecursion (λ m. All InRange (method_ids m)) xs
    methods_in_range [] [] h = tt
    methods_in_range [] (x ∷ xs) h = absurd h
    methods_in_range (k ∷ ks) [] h = absurd h
    methods_in_range (k ∷ ks) (x ∷ xs) h = (All-from_recursion InRange (method_ids x) (of_method_row k x h.0), methods_in_range ks xs h.1)

    of_members : (xs : List FieldId) → ((q : ℕ) → Contains (map (λ m. m.0) xs) q → q < length fields) → AllByRecursion InRange (map of_field xs)
    of_members [] f = tt
    of_members (x ∷ xs) f = (f x.0 (0, omega arith, refl), of_members xs (λ q c. f q (later x.0 (map (λ m. m.0) xs) q c)))

    of_field_row : length fields ≡ length (field_order given order) → (n : ℕ) (x : Field) → IsRow given order n x → AllByRecursion InRange (field_ids x)
    of_field_row long n x h =
        let f = h.field in
        let members = of_members x.members (λ q c. let l = h.below q c in omega (arith, l, long)) in
        let types = of_type f.f.tree.ty x.ty f.type_of in
        let none : AllByRecursion InRange (if_there init_ids x.init) = subst (λ o. AllByRecursion InRange (if_there init_ids o)) (sym f.init) tt in
        (of_id f.f.class x.owner f.owner, both_all InRange (ty_ids x.ty ++ if_there init_ids x.init) (map of_field x.members) (both_all InRange (ty_ids x.ty) (if_there init_ids x.init) types none) members)

    pub fields_in_range : length fields ≡ length (field_order given order) → (ns : List ℕ) (xs : List Field) → AllZip (IsRow given order) ns xs → AllByRecursion (λ f. All InRange (field_ids f)) xs
    fields_in_range long [] [] h = tt
    fields_in_range long [] (x ∷ xs) h = absurd h
    fields_in_range long (n ∷ ns) [] h = absurd h
    fields_in_range long (n ∷ ns) (x ∷ xs) h = (All-from_recursion InRange (field_ids x) (of_field_row long n x h.0), fields_in_range long ns xs h.1)

  -- ---- the ids of a class

  parent_in_range : (o : Option ClassId) → ((q : ℕ) → Contains (parent_list o) q → q < length classes) → AllByRecursion InRange (if_there (λ p. of_class p ∷ []) o)
  parent_in_range None f = tt
  parent_in_range (Some p) f = (f p.0 (0, omega arith, refl), tt)

  interfaces_in_range : (xs : List ClassId) → ((q : ℕ) → Contains (map (λ i. i.0) xs) q → q < length classes) → AllByRecursion InRange (map of_class xs)
  interfaces_in_range [] f = tt
  interfaces_in_range (x ∷ xs) f = (f x.0 (0, omega arith, refl), interfaces_in_range xs (λ q c. f q (later x.0 (map (λ i. i.0) xs) q c)))

  own_fields : (xs : List FieldId) → ((q : ℕ) → Contains (map (λ i. i.0) xs) q → q < length fields) → AllByRecursion InRange (map of_field xs)
  own_fields [] f = tt
  own_fields (x ∷ xs) f = (f x.0 (0, omega arith, refl), own_fields xs (λ q c. f q (later x.0 (map (λ i. i.0) xs) q c)))

  own_methods : (xs : List MethodId) → ((q : ℕ) → Contains (map (λ i. i.0) xs) q → q < length methods) → AllByRecursion InRange (map of_method xs)
  own_methods [] f = tt
  own_methods (x ∷ xs) f = (f x.0 (0, omega arith, refl), own_methods xs (λ q c. f q (later x.0 (map (λ i. i.0) xs) q c)))

  in_map : {X : Type 0} (number : X → ℕ) (xs : List X) (x : X) → Contains xs x → Contains (map number xs) (number x)
  in_map number [] x c = absurd (omega (arith, c.1))
  in_map number (y ∷ xs) x (zero, l, e) = (0, omega arith, ap number e)
  in_map number (y ∷ xs) x (suc k, l, e) = let r = in_map number xs x (k, omega (arith, l), e) in (suc r.0, omega (arith, r.1), r.2)

  from_map : {X : Type 0} (number : X → ℕ) (xs : List X) (q : ℕ) → Contains (map number xs) q → (x : X) × Contains xs x × (number x ≡ q)
  from_map number [] q c = absurd (omega (arith, c.1))
  from_map number (y ∷ xs) q (zero, l, e) = (y, (0, omega arith, refl), e)
  from_map number (y ∷ xs) q (suc k, l, e) = let r = from_map number xs q (k, omega (arith, l), e) in (r.0, (suc r.1.0, omega (arith, r.1.1), r.1.2), r.2)

  is_in : (i : ℕ) (c : Class) → IsAt classes i c → Contains classes c
  is_in i c at = (i, inside classes i c at, value classes i c c at)

  -- an id of a class's list is among all
  listed_below : {X : Type 0} (number : X → ℕ) (list : Class → List X) (n : ℕ) → map number (joined (map list classes)) ≡ counted 0 n → (i : ℕ) (c : Class) → IsAt classes i c → (q : ℕ) → Contains (map number (list c)) q → q < n
  listed_below {X = X} number list n all i c at q d =
      let r = from_map number (list c) q d in
      let there_one = in_joined list classes c r.0 (is_in i c at) r.1 in
      let mapped = subst (λ k. Contains (map number (joined (map list classes))) k) r.2 (in_map number (joined (map list classes)) r.0 there_one) in
      let l = counted_below 0 n q (subst (λ (xs : List ℕ). Contains xs q) all mapped) in
      omega (arith, l)

  pub class_in_range : map (λ f. f.0) (joined (map (λ c. c.fields) classes)) ≡ counted 0 (length fields) → map (λ m. m.0) (joined (map (λ c. c.methods) classes)) ≡ counted 0 (length methods)
      → (i : ℕ) (c : Class) → IsAt classes i c → All (λ s. s < i) (supertypes c) → c.invariants ≡ [] → c.represents ≡ [] → All InRange (class_ids c)
  class_in_range fids mids i c at supers invariants represents = All-from_recursion InRange (class_ids c) whole
    where
      lower : (q : ℕ) → Contains (supertypes c) q → q < length classes
      lower q d =
          let l : q < i = subst (λ x. x < i) d.2 (supers d.0 q d.1) in
          omega (arith, l, inside classes i c at)

      parents : List Id
      parents = if_there (λ p. of_class p ∷ []) c.parent

      whole : AllByRecursion InRange (class_ids c)
      whole =
          let p = parent_in_range c.parent (λ q d. lower q (Contains-append_left (parent_list c.parent) (map (λ n. n.0) c.interfaces) q d)) in
          let x = interfaces_in_range c.interfaces (λ q d. lower q (Contains-append_right (parent_list c.parent) (map (λ n. n.0) c.interfaces) q d)) in
          let f = own_fields c.fields (listed_below (λ (n : FieldId). n.0) (λ d. d.fields) (length fields) fids i c at) in
          let m = own_methods c.methods (listed_below (λ (n : MethodId). n.0) (λ d. d.methods) (length methods) mids i c at) in
          let one = if_there (λ p. of_class p ∷ []) c.parent in
          let two = one ++ map of_class c.interfaces in
          let three = two ++ map of_field c.fields in
          let four = three ++ map of_method c.methods in
          let named = both_all InRange three (map of_method c.methods) (both_all InRange two (map of_field c.fields) (both_all InRange one (map of_class c.interfaces) p x) f) m in
          rw (invariants, represents) (both_all InRange (four ++ []) [] (both_all InRange four [] named tt) tt)
