-- Where no rule on headings is broken, the table that headings give is lawful.
use Rattle.std.proofs.Common.{◌≡◌, ℕ, zero, suc, ◌+◌, ◌-◌, ◌<◌, ◌≤◌, ◌⊎◌, inl, inr, Bool, true, false, true≢false, nat_lt, ltb-true, ltb-false, List, [], ◌∷◌, ◌++◌, map, take, length, get_or, if◌then◌else◌, bytes_eq, Option, Some, None, refl, sym, ap, ◌∙◌, subst, arith}
use Rattle.std.proofs.lemmas.List.{get_or_default}
use Rattle.std.proofs.lemmas.List.Elements.{All-from_recursion}
use Rattle.std.proofs.lemmas.Slice.Eq.{bytes_eq-Decides}
use Rattle.std.specs.List.{All, AllZip, AllByRecursion, Contains, slice_get}
use Rattle.jesc_ast.specs.declared.word.Word.{Word}
use Rattle.jesc_ast.specs.declared.class.ClassTree.{ClassTree}
use Rattle.jesc_tree.specs.declared.ids.ClassId.{ClassId}
use Rattle.jesc_tree.specs.declared.class.Class.{Class}
use Rattle.jesc_tree.specs.Ids.{Id, of_class, class_ids, if_there}
use Rattle.jesc_tree.specs.Subtypes.{IsAt, parent_list, supertypes}
use Rattle.jesc_tree.specs.Programs.{predefined, IsBare, IsInRange, IsProgram, IsLawfulHeading, IsLawful}
use Rattle.jesc_classes.specs.Order.{supers}
use Rattle.jesc_classes.specs.Headings.{Source, extended, implemented, walk, class_names, class_named, first_from, with_class, classes_named, extended_by, graph_of, kinds, refusal_at, IsInterface, MayExtend, AllHold}
use Rattle.jesc_classes.specs.declared.rule.Rule.TheVariants.{N1, N2, N9}
use Rattle.jesc_classes.specs.Resolved.{IsId, superclass, interfaces, IsHeading}
use Rattle.jesc_classes.specs.Entries.{IsTable, HasNoMembers}
use Rattle.jesc_classes.specs.laws.Graphs.{row}
use Rattle.jesc_classes.specs.laws.Firsts.{below_predefined}
use Rattle.jesc_classes.specs.laws.Ids.{same_id}
use Rattle.jesc_classes.specs.laws.Walks.{seventh, HeadingHolds, heading_holds, IsNamed, named_by, extended_named, off_cycle, off_cycle_too}

-- ---- reading lists

pub inside : {X : Type 0} (xs : List X) (i : ℕ) (x : X) → slice_get xs i ≡ Some x → i < length xs
inside [] i x e = cc
inside (y ∷ xs) zero x e = omega arith
inside (y ∷ xs) (suc i) x e = omega (arith, inside xs i x e)

pub value : {X : Type 0} (xs : List X) (i : ℕ) (x d : X) → slice_get xs i ≡ Some x → get_or xs i d ≡ x
value [] i x d e = cc
value (y ∷ xs) zero x d e = cc
value (y ∷ xs) (suc i) x d e = value xs i x d e

pub there : {X : Type 0} (xs : List X) (i : ℕ) (d : X) → i < length xs → slice_get xs i ≡ Some (get_or xs i d)
there [] i d l = absurd (omega (arith, l))
there (x ∷ xs) zero d l = refl
there (x ∷ xs) (suc i) d l = there xs i d (omega (arith, l))

some : {X : Type 0} (xs : List X) (i : ℕ) → i < length xs → (x : X) × (slice_get xs i ≡ Some x)
some [] i l = absurd (omega (arith, l))
some (x ∷ xs) zero l = (x, refl)
some (x ∷ xs) (suc i) l = some xs i (omega (arith, l))

in_front : {X : Type 0} (xs ys : List X) (i : ℕ) (x : X) → slice_get xs i ≡ Some x → slice_get (xs ++ ys) i ≡ Some x
in_front [] ys i x e = cc
in_front (y ∷ xs) ys zero x e = e
in_front (y ∷ xs) ys (suc i) x e = in_front xs ys i x e

pub of_each : {X Y : Type 0} (f : X → Y) (xs : List X) (i : ℕ) (x : X) → slice_get xs i ≡ Some x → slice_get (map f xs) i ≡ Some (f x)
of_each f [] i x e = cc
of_each f (y ∷ xs) zero x e = let is : y ≡ x = cc in ap (λ z. Some (f z)) is
of_each f (y ∷ xs) (suc i) x e = of_each f xs i x e

from_each : {X Y : Type 0} (f : X → Y) (xs : List X) (i : ℕ) (y : Y) → slice_get (map f xs) i ≡ Some y → (x : X) × (slice_get xs i ≡ Some x) × (f x ≡ y)
from_each f [] i y e = cc
from_each f (x ∷ xs) zero y e = (x, refl, cc)
from_each f (x ∷ xs) (suc i) y e = from_each f xs i y e

of_first : {X : Type 0} (xs : List X) (k i : ℕ) (x : X) → i < k → slice_get xs i ≡ Some x → slice_get (take k xs) i ≡ Some x
of_first xs zero i x l e = absurd (omega (arith, l))
of_first [] (suc k) i x l e = cc
of_first (y ∷ xs) (suc k) zero x l e = e
of_first (y ∷ xs) (suc k) (suc i) x l e = of_first xs k i x (omega (arith, l)) e

pub each_at : {X : Type 0} (P : X → Type 0) (xs : List X) (i : ℕ) (x : X) → All P xs → slice_get xs i ≡ Some x → P x
each_at P xs i x all e = subst P (value xs i x x e) (all i x (inside xs i x e))

pub same_some : {X : Type 0} (x y : X) → Some x ≡ Some y → x ≡ y
same_some x y e = cc

later : (x : ℕ) (xs : List ℕ) (q : ℕ) → Contains xs q → Contains (x ∷ xs) q
later x xs q c = (suc c.0, omega (arith, c.1), c.2)

in_first : (xs ys : List ℕ) (q : ℕ) → Contains xs q → Contains (xs ++ ys) q
in_first [] ys q c = absurd (omega (arith, c.1))
in_first (x ∷ xs) ys q (zero, l, e) = (zero, omega arith, e)
in_first (x ∷ xs) ys q (suc k, l, e) = later x (xs ++ ys) q (in_first xs ys q (k, omega (arith, l), e))

in_second : (xs ys : List ℕ) (q : ℕ) → Contains ys q → Contains (xs ++ ys) q
in_second [] ys q c = c
in_second (x ∷ xs) ys q c = later x (xs ++ ys) q (in_second xs ys q c)

first_or_second : (xs ys : List ℕ) (q : ℕ) → Contains (xs ++ ys) q → Contains xs q ⊎ Contains ys q
first_or_second [] ys q c = inr c
first_or_second (x ∷ xs) ys q (zero, l, e) = inl (zero, omega arith, e)
first_or_second (x ∷ xs) ys q (suc k, l, e) = elim (first_or_second xs ys q (k, omega (arith, l), e)) [
  | inl c ↦ inl (later x xs q c)
  | inr c ↦ inr c
]

zipped : (R : ℕ → ℕ → Type 0) (xs ys : List ℕ) → AllZip R xs ys → (y : ℕ) → Contains ys y → (x : ℕ) × Contains xs x × R x y
zipped R [] [] h y c = absurd (omega (arith, c.1))
zipped R [] (z ∷ ys) h y c = absurd h
zipped R (x ∷ xs) [] h y c = absurd h
zipped R (x ∷ xs) (z ∷ ys) h y (zero, l, e) = (x, (0, omega arith, refl), subst (R x) e h.0)
zipped R (x ∷ xs) (z ∷ ys) h y (suc k, l, e) = let r = zipped R xs ys h.1 y (k, omega (arith, l), e) in (r.0, later x xs r.0 r.1, r.2)

-- ---- names

found_by : (i k : ℕ) (name : List ℕ) (names : List (List ℕ)) → slice_get names k ≡ Some name → (j : ℕ) × (first_from i name names ≡ Some j) × (j ≤ i + k)
found_by i k name [] e = cc
found_by i zero name (n ∷ names) e =
    let is : bytes_eq name n ≡ true = (bytes_eq-Decides name n).1 (sym (same_some n name e)) in
    (i, subst (λ b. (if b then Some i else first_from (i + 1) name names) ≡ Some i) (sym is) refl, omega arith)
found_by i (suc k) name (n ∷ names) e = by (bytes_eq name n) (found_by (i + 1) k name names e)
  where
    by : (b : Bool) → (j : ℕ) × (first_from (i + 1) name names ≡ Some j) × (j ≤ i + 1 + k) → (j : ℕ) × ((if b then Some i else first_from (i + 1) name names) ≡ Some j) × (j ≤ i + suc k)
    by true r = (i, refl, omega arith)
    by false r = (r.0, r.1, omega (arith, r.2))

module _ (given : List Source) (holds : AllHold given (walk given)) where
  -- a class's name means the class itself
  own_named : (n : ℕ) (s : Source) → slice_get given n ≡ Some s → class_named given s.tree.name.text ≡ Some (7 + n)
  own_named n s e =
      let names = of_each (λ t. t.tree.name.text) given n s e in
      let r = found_by 0 (7 + n) s.tree.name.text (class_names given) (subst (λ k. slice_get (class_names given) k ≡ Some s.tree.name.text) (sym (seventh n)) names) in
      by r.0 r.1 r.2 (nat_lt r.0 (7 + n)) refl
    where
      by : (j : ℕ) → class_named given s.tree.name.text ≡ Some j → j ≤ 0 + (7 + n) → (b : Bool) → nat_lt j (7 + n) ≡ b → class_named given s.tree.name.text ≡ Some (7 + n)
      by j f l true g = absurd ((heading_holds given holds n s e).name (refusal_at N2 s s.tree.name) (j, f, ltb-true j (7 + n) g, refl))
      by j f l false g = let is : j ≡ 7 + n = omega (arith, l, ltb-false j (7 + n) g) in f ∙ ap (λ k. Some k) is

  means_itself : (a : ℕ) (name : List ℕ) → slice_get (class_names given) a ≡ Some name → class_named given name ≡ Some a
  means_itself zero name e = subst (λ x. class_named given x ≡ Some 0) (same_some _ name e) refl
  means_itself (suc zero) name e = subst (λ x. class_named given x ≡ Some 1) (same_some _ name e) refl
  means_itself (suc (suc zero)) name e = subst (λ x. class_named given x ≡ Some 2) (same_some _ name e) refl
  means_itself (suc (suc (suc zero))) name e = subst (λ x. class_named given x ≡ Some 3) (same_some _ name e) refl
  means_itself (suc (suc (suc (suc zero)))) name e = subst (λ x. class_named given x ≡ Some 4) (same_some _ name e) refl
  means_itself (suc (suc (suc (suc (suc zero))))) name e = subst (λ x. class_named given x ≡ Some 5) (same_some _ name e) refl
  means_itself (suc (suc (suc (suc (suc (suc zero)))))) name e = subst (λ x. class_named given x ≡ Some 6) (same_some _ name e) refl
  means_itself (suc (suc (suc (suc (suc (suc (suc n))))))) name e =
      let r = from_each (λ t. t.tree.name.text) given n name e in
      subst (λ x. class_named given x ≡ Some (suc (suc (suc (suc (suc (suc (suc n)))))))) r.2 (own_named n r.0 r.1 ∙ ap (λ k. Some k) (seventh n))

  -- ---- kinds of supertypes

  extends_stands : (i : ℕ) (s : Source) (b : ℕ) → IsNamed given (extended i s) b → (MayExtend given s.tree.is_interface b → ⊥) → ⊥
  extends_stands i s b named wrong = named.holds (refusal_at N9 s named.word) (inr (b, named.means, inr (off_cycle given i s b named, wrong, refl)))

  implements_stands : (i : ℕ) (s : Source) (b : ℕ) → IsNamed given (implemented i s) b → (IsInterface given b → ⊥) → ⊥
  implements_stands i s b named wrong = named.holds (refusal_at N9 s named.word) (inr (b, named.means, inr (off_cycle_too given i s b named, wrong, refl)))

  interface_of : (b : ℕ) (k : Bool) → slice_get (kinds given) b ≡ Some k → ((IsInterface given b → ⊥) → ⊥) → k ≡ true
  interface_of b true e h = refl
  interface_of b false e h = absurd (h (λ f. true≢false (sym (same_some false true (sym e ∙ f)))))

  class_may : (t : Bool) (b : ℕ) → t ≡ false → MayExtend given t b → IsInterface given b → ⊥
  class_may true b e h = absurd (true≢false e)
  class_may false b e h = h.0

  interface_may : (t : Bool) (b : ℕ) → t ≡ true → MayExtend given t b → IsInterface given b
  interface_may true b e h = h
  interface_may false b e h = absurd (true≢false (sym e))

-- ---- where each entry comes from

module _ (given : List Source) (classes : List Class) (are : IsTable given classes) where
  own_id : (k : ℕ) → k < 7 → IsId are.order k k
  own_id = are.numbering.first

  one_id : (a i j : ℕ) → IsId are.order a i → IsId are.order a j → i ≡ j
  one_id a i j e f = same_id are.order are.numbering.apart i j (inside are.order i a e) (inside are.order j a f) (value are.order i a 0 e ∙ sym (value are.order j a 0 f))

  -- a predefined class
  record IsBase (i : ℕ) (c : Class) : Type 0 where
    low : i < 7
    row_is : slice_get predefined i ≡ Some (c.name, parent_list c.parent)

  -- a given class
  record IsOwn (i : ℕ) (c : Class) : Type 0 where
    n : ℕ
    s : Source
    is_given : slice_get given n ≡ Some s
    id : IsId are.order (7 + n) i
    high : 7 ≤ i
    heading : IsHeading given are.order s c

  base : (i : ℕ) (c : Class) → IsAt classes i c → i < 7 → IsBase i c
  base i c at l = record {
    low = l;
    row_is = subst (λ rows. slice_get rows i ≡ Some (c.name, parent_list c.parent)) are.entries.names (of_each (λ d. (d.name, parent_list d.parent)) (take 7 classes) i c (of_first classes 7 i c l at));
  }

  own : (i : ℕ) (c : Class) → IsAt classes i c → 7 ≤ i → IsOwn i c
  own i c at h =
      let l : i < length are.order = omega (arith, inside classes i c at, are.entries.count) in
      let a = get_or are.order i 0 in
      let is = there are.order i 0 l in
      let high : 7 ≤ a = beyond a is (nat_lt a 7) refl in
      let few : a - 7 < length given = omega (arith, high, are.numbering.within i l) in
      let r = some given (a - 7) few in
      let number : a ≡ 7 + (a - 7) = omega (arith, high) in
      let id = subst (λ x. IsId are.order x i) number is in
      record { n = a - 7; s = r.0; is_given = r.1; id = id; high = h; heading = are.entries.each i (a - 7) c r.0 at id r.1 }
    where
      beyond : (a : ℕ) → IsId are.order a i → (b : Bool) → nat_lt a 7 ≡ b → 7 ≤ a
      beyond a is true e = let l = ltb-true a 7 e in let same = one_id a i a is (own_id a l) in absurd (omega (arith, h, l, same))
      beyond a is false e = ltb-false a 7 e

  origin : (i : ℕ) (c : Class) → IsAt classes i c → IsBase i c ⊎ IsOwn i c
  origin i c at = by (nat_lt i 7) refl
    where
      by : (b : Bool) → nat_lt i 7 ≡ b → IsBase i c ⊎ IsOwn i c
      by true e = inl (base i c at (ltb-true i 7 e))
      by false e = inr (own i c at (ltb-false i 7 e))

-- ---- what a heading names

module _ (given : List Source) where
  pub kinds_of : (t : Bool) → (t ≡ true) ⊎ (t ≡ false)
  kinds_of true = inl refl
  kinds_of false = inr refl

  pub superclass_none : (c : ClassTree) → c.is_interface ≡ true → superclass given c ≡ []
  superclass_none c e = rw e refl

  pub superclass_some : (c : ClassTree) → c.is_interface ≡ false → superclass given c ≡ extended_by given c c.extends
  superclass_some c e = rw e refl

  pub interfaces_extended : (c : ClassTree) → c.is_interface ≡ true → interfaces given c ≡ classes_named given c.extends
  interfaces_extended c e = rw e refl

  pub interfaces_implemented : (c : ClassTree) → c.is_interface ≡ false → interfaces given c ≡ classes_named given c.implements
  interfaces_implemented c e = rw e refl

  named_is_extended : (c : ClassTree) (ws : List Word) (b : ℕ) → Contains (classes_named given ws) b → Contains (extended_by given c ws) b
  named_is_extended c [] b h = absurd (omega (arith, h.1))
  named_is_extended c (w ∷ ws) b h = h

  superclass_in_row : (s : Source) (b : ℕ) → Contains (superclass given s.tree) b → Contains (row given s) b
  superclass_in_row s b h = elim (kinds_of s.tree.is_interface) [
    | inl e ↦ let no = subst (λ xs. Contains xs b) (superclass_none s.tree e) h in absurd (omega (arith, no.1))
    | inr e ↦ in_first (extended_by given s.tree s.tree.extends) (classes_named given s.tree.implements) b (subst (λ xs. Contains xs b) (superclass_some s.tree e) h)
  ]

  interface_in_row : (s : Source) (b : ℕ) → Contains (interfaces given s.tree) b → Contains (row given s) b
  interface_in_row s b h = elim (kinds_of s.tree.is_interface) [
    | inl e ↦ in_first (extended_by given s.tree s.tree.extends) (classes_named given s.tree.implements) b (named_is_extended s.tree s.tree.extends b (subst (λ xs. Contains xs b) (interfaces_extended s.tree e) h))
    | inr e ↦ in_second (extended_by given s.tree s.tree.extends) (classes_named given s.tree.implements) b (subst (λ xs. Contains xs b) (interfaces_implemented s.tree e) h)
  ]

  -- a class has a superclass
  extended_first : (i : ℕ) (s : Source) (ws : List Word) → AllHold given (map (extended i s) ws) → s.tree.is_interface ≡ false → (x : ℕ) × Contains (extended_by given s.tree ws) x
  extended_first i s [] h e = (0, subst (λ b. Contains {X = ℕ} (if b then [] else (0 ∷ [])) 0) (sym e) (0, omega arith, refl))
  extended_first i s (w ∷ ws) h e = by (class_named given w.text) refl
    where
      by : (o : Option ℕ) → class_named given w.text ≡ o → (x : ℕ) × Contains (with_class o (classes_named given ws)) x
      by None f = absurd (h.0 (refusal_at N1 s w) (inl (f, refl)))
      by (Some j) f = (j, (0, omega arith, refl))

  own_row : (n : ℕ) (s : Source) → slice_get given n ≡ Some s → supers (graph_of given) (7 + n) ≡ row given s
  own_row n s e = ap (supers (graph_of given)) (seventh n) ∙ value (map (row given) given) n (row given s) [] (of_each (row given) given n s e)

  -- each predefined class but Object has a superclass
  first_above : (i : ℕ) → 1 ≤ i → i < 7 → (x : ℕ) × Contains (supers (graph_of given) i) x
  first_above zero h l = absurd (omega (arith, h))
  first_above (suc zero) h l = (0, (0, omega arith, refl))
  first_above (suc (suc zero)) h l = (1, (0, omega arith, refl))
  first_above (suc (suc (suc zero))) h l = (1, (0, omega arith, refl))
  first_above (suc (suc (suc (suc zero)))) h l = (2, (0, omega arith, refl))
  first_above (suc (suc (suc (suc (suc zero))))) h l = (4, (0, omega arith, refl))
  first_above (suc (suc (suc (suc (suc (suc zero)))))) h l = (4, (0, omega arith, refl))
  first_above (suc (suc (suc (suc (suc (suc (suc i))))))) h l = absurd (omega (arith, l))

-- ---- lists of ids

no_parent : (o : Option ClassId) → parent_list o ≡ [] → o ≡ None
no_parent None e = refl
no_parent (Some p) e = cc

no_parent_zip : (R : ℕ → ℕ → Type 0) (o : Option ClassId) → AllZip R [] (parent_list o) → o ≡ None
no_parent_zip R None h = refl
no_parent_zip R (Some p) h = absurd h

nothing_zipped : (R : ℕ → ℕ → Type 0) (xs : List ℕ) (x : ℕ) → AllZip R xs [] → Contains xs x → ⊥
nothing_zipped R [] x h c = omega (arith, c.1)
nothing_zipped R (y ∷ xs) x h c = h

each_from : (P : ℕ → Type 0) (xs : List ℕ) → ((q : ℕ) → Contains xs q → P q) → All P xs
each_from P xs f = λ k d l. f (get_or xs k d) (k, l, get_or_default xs k (get_or xs k d) d l)

each_id_from : (P : ℕ → Type 0) (xs : List ClassId) → ((q : ℕ) → Contains (map (λ i. i.0) xs) q → P q) → AllByRecursion (λ x. P x.0) xs
each_id_from P [] f = tt
each_id_from P (x ∷ xs) f = (f x.0 (0, omega arith, refl), each_id_from P xs (λ q c. f q (later x.0 (map (λ i. i.0) xs) q c)))

joined : {X : Type 0} (P : X → Type 0) (xs ys : List X) → AllByRecursion P xs → AllByRecursion P ys → AllByRecursion P (xs ++ ys)
joined P [] ys h k = k
joined P (x ∷ xs) ys h k = (h.0, joined P xs ys h.1 k)

module _ (classes : List Class) where
  abbrev InRange : Id → Type 0
  InRange = IsInRange classes [] []

  parent_in_range : (o : Option ClassId) → ((q : ℕ) → Contains (parent_list o) q → q < length classes) → AllByRecursion InRange (if_there (λ p. of_class p ∷ []) o)
  parent_in_range None f = tt
  parent_in_range (Some p) f = (f p.0 (0, omega arith, refl), tt)

  interfaces_in_range : (xs : List ClassId) → ((q : ℕ) → Contains (map (λ i. i.0) xs) q → q < length classes) → AllByRecursion InRange (map of_class xs)
  interfaces_in_range [] f = tt
  interfaces_in_range (x ∷ xs) f = (f x.0 (0, omega arith, refl), interfaces_in_range xs (λ q c. f q (later x.0 (map (λ i. i.0) xs) q c)))

  ids_in_range : (c : Class) → HasNoMembers c → ((q : ℕ) → Contains (supertypes c) q → q < length classes) → AllByRecursion InRange (class_ids c)
  ids_in_range c none f =
      let parents = if_there (λ p. of_class p ∷ []) c.parent in
      let others = map of_class c.interfaces in
      let named = joined InRange parents others (parent_in_range c.parent (λ q h. f q (in_first (parent_list c.parent) (map (λ i. i.0) c.interfaces) q h)))
      (interfaces_in_range c.interfaces (λ q h. f q (in_second (parent_list c.parent) (map (λ i. i.0) c.interfaces) q h))) in
      let none_behind = λ (xs : List Id) (h : AllByRecursion InRange xs). joined InRange xs [] h tt in
      rw (none.fields, none.methods, none.invariants, none.represents) (none_behind _ (none_behind _ (none_behind _ (none_behind (parents ++ others) named))))

-- ---- what is true of an entry

module _ (given : List Source) (classes : List Class) (are : IsTable given classes) (bare : All IsBare (take 7 classes)) where
  record Entry (i : ℕ) (c : Class) : Type 0 where
    number : ℕ
    id : IsId are.order number i
    named : slice_get (class_names given) number ≡ Some c.name
    kind : slice_get (kinds given) number ≡ Some c.is_interface
    above : (x : ℕ) → Contains (supertypes c) x → (b : ℕ) × IsId are.order b x × Contains (supers (graph_of given) number) b

  is_bare : (i : ℕ) (c : Class) → IsAt classes i c → i < 7 → IsBare c
  is_bare i c at l = each_at IsBare (take 7 classes) i c bare (of_first classes 7 i c l at)

  base_row : (i : ℕ) (c : Class) → IsBase given classes are i c → supers (graph_of given) i ≡ parent_list c.parent
  base_row i c b = value (graph_of given) i (parent_list c.parent) [] (in_front (map (λ p. p.1) predefined) (map (row given) given) i (parent_list c.parent) (of_each (λ p. p.1) predefined i (c.name, parent_list c.parent) b.row_is))

  base_above : (i : ℕ) (c : Class) → IsAt classes i c → IsBase given classes are i c → (x : ℕ) → Contains (supertypes c) x → Contains (supers (graph_of given) i) x
  base_above i c at b x h = elim (first_or_second (parent_list c.parent) (map (λ i. i.0) c.interfaces) x h) [
    | inl d ↦ subst (λ xs. Contains xs x) (sym (base_row i c b)) d
    | inr d ↦ let no = subst (λ (xs : List ClassId). Contains (map (λ i. i.0) xs) x) (is_bare i c at b.low).interfaces d in absurd (omega (arith, no.1))
  ]

  base_entry : (i : ℕ) (c : Class) → IsAt classes i c → IsBase given classes are i c → Entry i c
  base_entry i c at b = record {
    number = i;
    id = own_id given classes are i b.low;
    named = in_front (map (λ p. p.0) predefined) (map (λ s. s.tree.name.text) given) i c.name (of_each (λ p. p.0) predefined i (c.name, parent_list c.parent) b.row_is);
    kind = in_front (map (λ p. false) predefined) (map (λ s. s.tree.is_interface) given) i false (of_each (λ p. false) predefined i (c.name, parent_list c.parent) b.row_is) ∙ ap (λ k. Some k) (sym (is_bare i c at b.low).is_class);
    above = λ x h. (x, own_id given classes are x (lower x h), base_above i c at b x h);
  }
    where
      lower : (x : ℕ) → Contains (supertypes c) x → x < 7
      lower x h =
          let r = base_above i c at b x h in
          let down : x < i = subst (λ y. y < i) r.2 (below_predefined given i b.low r.0 x r.1) in
          omega (arith, down, b.low)

  own_above : (i : ℕ) (c : Class) (o : IsOwn given classes are i c) (x : ℕ) → Contains (supertypes c) x → (b : ℕ) × IsId are.order b x × Contains (row given o.s) b
  own_above i c o x h = elim (first_or_second (parent_list c.parent) (map (λ i. i.0) c.interfaces) x h) [
    | inl d ↦ let r = zipped (IsId are.order) (superclass given o.s.tree) (parent_list c.parent) o.heading.parent x d in (r.0, r.2, superclass_in_row given o.s r.0 r.1)
    | inr d ↦ let r = zipped (IsId are.order) (interfaces given o.s.tree) (map (λ i. i.0) c.interfaces) o.heading.interfaces x d in (r.0, r.2, interface_in_row given o.s r.0 r.1)
  ]

  own_entry : (i : ℕ) (c : Class) → IsOwn given classes are i c → Entry i c
  own_entry i c o = record {
    number = 7 + o.n;
    id = o.id;
    named = subst (λ k. slice_get (class_names given) k ≡ Some c.name) (sym (seventh o.n)) (of_each (λ s. s.tree.name.text) given o.n o.s o.is_given ∙ ap (λ k. Some k) (sym o.heading.name));
    kind = subst (λ k. slice_get (kinds given) k ≡ Some c.is_interface) (sym (seventh o.n)) (of_each (λ s. s.tree.is_interface) given o.n o.s o.is_given ∙ ap (λ k. Some k) (sym o.heading.is_interface));
    above = λ x h. let r = own_above i c o x h in (r.0, r.1, subst (λ xs. Contains xs r.0) (sym (own_row given o.n o.s o.is_given)) r.2);
  }

  entry : (i : ℕ) (c : Class) → IsAt classes i c → Entry i c
  entry i c at = elim (origin given classes are i c at) [ inl b ↦ base_entry i c at b | inr o ↦ own_entry i c o ]

  is_first : (i : ℕ) (c : Class) → IsAt classes i c → (q : ℕ) → Contains (supertypes c) q → q < i
  is_first i c at q h =
      let e = entry i c at in
      let up = e.above q h in
      let c = subst (λ x. Contains (supers (graph_of given) x) up.0) (sym (value are.order i e.number 0 e.id)) up.2 in
      are.numbering.parents i q (inside are.order i e.number e.id) (inside are.order q up.0 up.1)
      (subst (Contains (supers (graph_of given) (get_or are.order i 0))) (sym (value are.order q up.0 0 up.1)) c)

  module _ (plain : All HasNoMembers classes) where
    pub program : IsProgram classes [] []
    program = record {
      of_classes = λ k d l.
          let at = there classes k d l in
          let c = get_or classes k d in
          All-from_recursion (IsInRange classes [] []) (class_ids c) (ids_in_range classes c (plain k d l) (λ q h. let down = is_first k c at q h in omega (arith, down, l)));
      of_fields = λ k d l. absurd (omega (arith, l));
      of_methods = λ k d l. absurd (omega (arith, l));
      supertypes_first = λ i c at. each_from (λ s. s < i) (supertypes c) (is_first i c at);
      names = are.entries.names;
      bare = bare;
    }

    module _ (holds : AllHold given (walk given)) where
      own_name : (i : ℕ) (c : Class) → IsAt classes i c → (j : ℕ) (d : Class) → IsAt classes j d → d.name ≡ c.name → j ≡ i
      own_name i c at j d here same =
          let e = entry i c at in
          let f = entry j d here in
          let mine = means_itself given holds e.number c.name e.named in
          let other = subst (λ x. class_named given x ≡ Some f.number) same (means_itself given holds f.number d.name f.named) in
          let is : f.number ≡ e.number = same_some f.number e.number (sym other ∙ mine) in
          one_id given classes are e.number j i (subst (λ x. IsId are.order x j) is f.id) e.id

      -- the kind of the class of an id, by its number
      kind_of : (b p : ℕ) (d : Class) → IsId are.order b p → IsAt classes p d → slice_get (kinds given) b ≡ Some d.is_interface
      kind_of b p d id at =
          let e = entry p d at in
          subst (λ x. slice_get (kinds given) x ≡ Some d.is_interface) (same_some e.number b (sym e.id ∙ id)) e.kind

      base_heading : (i : ℕ) (c : Class) → IsAt classes i c → IsBase given classes are i c → IsLawfulHeading classes i c
      base_heading i c at b = record {
        own_name = own_name i c at;
        superclass = (
          λ e. inl (is_object e (nat_lt 0 i) refl),
          λ h. elim h [
            | inl z ↦ no_parent c.parent (sym (base_row i c b) ∙ ap (supers (graph_of given)) z)
            | inr k ↦ absurd (true≢false (sym k ∙ (is_bare i c at b.low).is_class))
          ],
        );
        extends_class = λ p d e here. let down = is_first i c at p (in_first (parent_list c.parent) (map (λ i. i.0) c.interfaces) p (subst (λ xs. Contains xs p) (sym e) (0, omega arith, refl))) in (is_bare p d here (omega (arith, down, b.low))).is_class;
        interfaces = subst (λ (xs : List ClassId). All (λ s. (d : Class) → IsAt classes s.0 d → d.is_interface ≡ true) xs) (sym (is_bare i c at b.low).interfaces) (λ k d l. absurd (omega (arith, l)));
      }
        where
          is_object : c.parent ≡ None → (t : Bool) → nat_lt 0 i ≡ t → i ≡ 0
          is_object e true f =
              let up = first_above given i (omega (arith, ltb-true 0 i f)) b.low in
              let no = subst (λ (o : Option ClassId). Contains (parent_list o) up.0) e (subst (λ xs. Contains xs up.0) (base_row i c b) up.1) in
              absurd (omega (arith, no.1))
          is_object e false f = omega (arith, ltb-false 0 i f)

      module _ (i : ℕ) (c : Class) (at : IsAt classes i c) (o : IsOwn given classes are i c) where
        rules : HeadingHolds given (7 + o.n) o.s
        rules = heading_holds given holds o.n o.s o.is_given

        has_parent : c.parent ≡ None → o.s.tree.is_interface ≡ false → ⊥
        has_parent none e =
            let x = extended_first given (7 + o.n) o.s o.s.tree.extends rules.extends e in
            let above = subst (λ (p : Option ClassId). AllZip (IsId are.order) (superclass given o.s.tree) (parent_list p)) none o.heading.parent in
            nothing_zipped (IsId are.order) (superclass given o.s.tree) x.0 above (subst (λ xs. Contains xs x.0) (sym (superclass_some given o.s.tree e)) x.1)

        no_superclass : o.s.tree.is_interface ≡ true → c.parent ≡ None
        no_superclass e = no_parent_zip (IsId are.order) c.parent (subst (λ xs. AllZip (IsId are.order) xs (parent_list c.parent)) (superclass_none given o.s.tree e) o.heading.parent)

        -- what a class extends is no interface
        extended_kind : (b : ℕ) (k : Bool) → o.s.tree.is_interface ≡ false → slice_get (kinds given) b ≡ Some k → Contains (extended_by given o.s.tree o.s.tree.extends) b → k ≡ false
        extended_kind b false e is h = refl
        extended_kind b true e is h = elim (extended_named given (7 + o.n) o.s o.s.tree.extends rules.extends b h) [
          | inl z ↦ absurd (true≢false (same_some true false (sym is ∙ ap (slice_get (kinds given)) z)))
          | inr named ↦ absurd (extends_stands given holds (7 + o.n) o.s b named (λ may. class_may given holds o.s.tree.is_interface b e may is))
        ]

        extends_class : (p : ℕ) (d : Class) → parent_list c.parent ≡ p ∷ [] → IsAt classes p d → d.is_interface ≡ false
        extends_class p d e here =
            let r = zipped (IsId are.order) (superclass given o.s.tree) (parent_list c.parent) o.heading.parent p (subst (λ xs. Contains xs p) (sym e) (0, omega arith, refl)) in
            elim (kinds_of given o.s.tree.is_interface) [
              | inl k ↦ let no = subst (λ xs. Contains xs r.0) (superclass_none given o.s.tree k) r.1 in absurd (omega (arith, no.1))
              | inr k ↦ extended_kind r.0 d.is_interface k (kind_of r.0 p d r.2 here) (subst (λ xs. Contains xs r.0) (superclass_some given o.s.tree k) r.1)
            ]

        interface_kind : (q : ℕ) → Contains (map (λ x. x.0) c.interfaces) q → (d : Class) → IsAt classes q d → d.is_interface ≡ true
        interface_kind q h d here =
            let r = zipped (IsId are.order) (interfaces given o.s.tree) (map (λ x. x.0) c.interfaces) o.heading.interfaces q h in
            let kind = kind_of r.0 q d r.2 here in
            elim (kinds_of given o.s.tree.is_interface) [
              | inl k ↦
                  let named = named_by given (extended (7 + o.n) o.s) o.s.tree.extends rules.extends r.0 (subst (λ xs. Contains xs r.0) (interfaces_extended given o.s.tree k) r.1) in
                  interface_of given holds r.0 d.is_interface kind (λ none. extends_stands given holds (7 + o.n) o.s r.0 named (λ may. none (interface_may given holds o.s.tree.is_interface r.0 k may)))
              | inr k ↦
                  let named = named_by given (implemented (7 + o.n) o.s) o.s.tree.implements rules.implements r.0 (subst (λ xs. Contains xs r.0) (interfaces_implemented given o.s.tree k) r.1) in
                  interface_of given holds r.0 d.is_interface kind (implements_stands given holds (7 + o.n) o.s r.0 named)
            ]

        own_heading : IsLawfulHeading classes i c
        own_heading = record {
          own_name = own_name i c at;
          superclass = (
            λ none. elim (kinds_of given o.s.tree.is_interface) [
              | inl k ↦ inr (o.heading.is_interface ∙ k)
              | inr k ↦ absurd (has_parent none k)
            ],
            λ h. elim h [
              | inl z ↦ absurd (omega (arith, z, o.high))
              | inr k ↦ no_superclass (sym o.heading.is_interface ∙ k)
            ],
          );
          extends_class = extends_class;
          interfaces = All-from_recursion (λ x. (d : Class) → IsAt classes x.0 d → d.is_interface ≡ true) c.interfaces (each_id_from (λ q. (d : Class) → IsAt classes q d → d.is_interface ≡ true) c.interfaces interface_kind);
        }

      pub is_lawful : IsLawful classes [] []
      is_lawful = record {
        program = program;
        headings = λ i c at. elim (origin given classes are i c at) [ inl b ↦ base_heading i c at b | inr o ↦ own_heading i c at o ];
      }
