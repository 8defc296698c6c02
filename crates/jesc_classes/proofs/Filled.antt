-- The table of classes, filled one class after another.
use Rattle.std.proofs.Common.{◌≡◌, Bool, true, false, if◌then◌else◌, ℕ, zero, suc, ◌+◌, ◌-◌, ◌<◌, ◌≤◌, get_or, nat_lt, ltb-true, ltb-false, ◌⊎◌, inl, inr, List, [], ◌∷◌, ◌++◌, length, map, take, Some, refl, sym, ap, ◌∙◌, subst, arith, take_all}
use Rattle.std.proofs.lemmas.List.{length-append, length-map}
use Rattle.std.proofs.lemmas.List.Elements.{All-append, All-from_recursion}
use Rattle.std.specs.List.{All, AllByRecursion, AllZip, slice_get}
use Rattle.jesc_tree.specs.declared.class.Class.{Class}
use Rattle.jesc_tree.specs.Subtypes.{IsAt, parent_list}
use Rattle.jesc_tree.specs.Programs.{predefined, IsBare}
use Rattle.jesc_classes.specs.Headings.{Source, extended_by}
use Rattle.jesc_classes.specs.Resolved.{IsId}
use Rattle.jesc_classes.specs.Entries.{IsNumbering, HasNoMembers, IsEntry, AreEntries, AreIds, id_in}
use Rattle.jesc_classes.specs.Resolved.{superclass, interfaces, IsHeading}
use Rattle.jesc_classes.proofs.Numbers.{named_within}
use Rattle.jesc_ast.specs.declared.word.Word.{Word}
use Rattle.jesc_ast.specs.declared.class.ClassTree.{ClassTree}
use Rattle.jesc_classes.specs.laws.Ids.{are_ids, all_there}
use Rattle.jesc_classes.specs.declared.source.GivenClass.{GivenClass}
use Rattle.jesc_classes.specs.Sources.{seen}
use Rattle.jesc_classes.specs.laws.Lawful.{inside, value, there, of_each, same_some, kinds_of, superclass_none, superclass_some, interfaces_extended, interfaces_implemented}

-- the first classes of the order are in the table
pub record AreEntriesBelow (given : List Source) (order ids : List ℕ) (id : ℕ) (classes : List Class) : Type 0 where
  pub count : length classes ≡ id
  pub low : 7 ≤ id
  pub high : id ≤ length order
  pub names : map (λ c. (c.name, parent_list c.parent)) (take 7 classes) ≡ predefined
  pub bare : All IsBare (take 7 classes)
  pub plain : All HasNoMembers classes
  pub each : (i n : ℕ) (c : Class) (s : Source) → IsAt classes i c → IsId order (7 + n) i → slice_get given n ≡ Some s → IsEntry given ids s c

module _ (given : List Source) (order ids : List ℕ) where
  -- ---- the predefined classes

  abbrev row_of : Class → List ℕ × List ℕ
  row_of c = (c.name, parent_list c.parent)

  seven_long : (classes : List Class) → map (λ c. (c.name, parent_list c.parent)) classes ≡ predefined → length classes ≡ 7
  seven_long classes names =
      let all : length (map (λ (c : Class). row_of c) classes) ≡ 7 = ap (λ (rows : List (List ℕ × List ℕ)). length rows) names in
      omega (arith, all, length-map classes row_of)

  all_plain : (classes : List Class) → All IsBare classes → All (λ c. c.methods ≡ []) classes → All HasNoMembers classes
  all_plain classes bare methods = λ k d l. record {
    fields = (bare k d l).fields;
    methods = methods k d l;
    invariants = (bare k d l).invariants;
    represents = (bare k d l).represents;
  }

  pub start : IsNumbering given order → 7 ≤ length order → (classes : List Class) → map (λ c. (c.name, parent_list c.parent)) classes ≡ predefined → All IsBare classes → All (λ c. c.methods ≡ []) classes → AreEntriesBelow given order ids 7 classes
  start numbering long classes names bare methods =
      let count = seven_long classes names in
      let whole : take 7 classes ≡ classes = take_all 7 classes (omega (arith, count)) in
      record {
        count = count;
        low = omega arith;
        high = long;
        names = ap (map (λ (c : Class). (c.name, parent_list c.parent))) whole ∙ names;
        bare = subst (All IsBare) (sym whole) bare;
        plain = all_plain classes bare methods;
        each = λ i n c s at id is.
            let l : i < 7 = omega (arith, inside classes i c at, count) in
            let same = same_some i (7 + n) (sym (numbering.first i l) ∙ id) in
            absurd (omega (arith, same, l));
      }

  -- ---- one more class

  last_or_front : (classes : List Class) (c x : Class) (i : ℕ) → slice_get (classes ++ c ∷ []) i ≡ Some x → ((i ≡ length classes) × (c ≡ x)) ⊎ (slice_get classes i ≡ Some x)
  last_or_front [] c x zero e = inl (omega arith, same_some c x e)
  last_or_front [] c x (suc i) e = cc
  last_or_front (y ∷ classes) c x zero e = inr e
  last_or_front (y ∷ classes) c x (suc i) e = elim (last_or_front classes c x i e) [
    | inl h ↦ inl (omega (arith, h.0), h.1)
    | inr h ↦ inr h
  ]

  take_front : (classes : List Class) (c : Class) (k : ℕ) → k ≤ length classes → take k (classes ++ c ∷ []) ≡ take k classes
  take_front classes c zero l = refl
  take_front [] c (suc k) l = absurd (omega (arith, l))
  take_front (y ∷ classes) c (suc k) l = ap (λ xs. y ∷ xs) (take_front classes c k (omega (arith, l)))

  more_plain : (classes : List Class) (c : Class) → All HasNoMembers classes → HasNoMembers c → All HasNoMembers (classes ++ c ∷ [])
  more_plain classes c all one = All-append HasNoMembers classes (c ∷ []) all (All-from_recursion HasNoMembers (c ∷ []) (one, tt))

  pub more : (id m : ℕ) (classes : List Class) (s : Source) (c : Class) → AreEntriesBelow given order ids id classes → id < length order → IsId order (7 + m) id → slice_get given m ≡ Some s → IsEntry given ids s c → HasNoMembers c → AreEntriesBelow given order ids (id + 1) (classes ++ c ∷ [])
  more id m classes s c below l number is entry plain =
      let front = take_front classes c 7 (omega (arith, below.low, below.count)) in
      record {
        count = omega (arith, below.count, length-append classes (c ∷ []));
        low = omega (arith, below.low);
        high = omega (arith, l);
        names = ap (map (λ (x : Class). (x.name, parent_list x.parent))) front ∙ below.names;
        bare = subst (All IsBare) (sym front) below.bare;
        plain = more_plain classes c below.plain plain;
        each = λ i n x t at j given_t. elim (last_or_front classes c x i at) [
          | inr old ↦ below.each i n x t old j given_t
          | inl new ↦ last i n x t new.0 new.1 j given_t
        ];
      }
    where
      last : (i n : ℕ) (x : Class) (t : Source) → i ≡ length classes → c ≡ x → IsId order (7 + n) i → slice_get given n ≡ Some t → IsEntry given ids t x
      last i n x t at e j given_t =
          let here : i ≡ id = omega (arith, at, below.count) in
          let numbers = same_some (7 + n) (7 + m) (sym (subst (λ k. IsId order (7 + n) k) here j) ∙ number) in
          let n_is : n ≡ m = omega (arith, numbers) in
          let t_is = same_some s t (sym is ∙ subst (λ k. slice_get given k ≡ Some t) n_is given_t) in
          subst (λ u. IsEntry given ids u x) t_is (subst (IsEntry given ids s) e entry)

  -- ---- all classes

  zip_ids : length ids ≡ length given + 7 → AreIds order ids → (xs : List ℕ) → AllByRecursion (λ j. j < length given + 7) xs → AllZip (IsId order) xs (map (id_in ids) xs)
  zip_ids long are [] h = tt
  zip_ids long are (x ∷ xs) h = (are x (omega (arith, h.0, long)), zip_ids long are xs h.1)

  extended_within : (c : ClassTree) (ws : List Word) → AllByRecursion (λ j. j < length given + 7) (extended_by given c ws)
  extended_within c [] = by c.is_interface
    where
      by : (b : Bool) → AllByRecursion (λ j. j < length given + 7) (if b then [] else (0 ∷ []))
      by true = tt
      by false = (omega arith, tt)
  extended_within c (w ∷ ws) = named_within given (w ∷ ws)

  superclass_within : (c : ClassTree) → AllByRecursion (λ j. j < length given + 7) (superclass given c)
  superclass_within c = elim (kinds_of given c.is_interface) [
    | inl e ↦ subst (AllByRecursion (λ j. j < length given + 7)) (sym (superclass_none given c e)) tt
    | inr e ↦ subst (AllByRecursion (λ j. j < length given + 7)) (sym (superclass_some given c e)) (extended_within c c.extends)
  ]

  interfaces_within : (c : ClassTree) → AllByRecursion (λ j. j < length given + 7) (interfaces given c)
  interfaces_within c = elim (kinds_of given c.is_interface) [
    | inl e ↦ subst (AllByRecursion (λ j. j < length given + 7)) (sym (interfaces_extended given c e)) (named_within given c.extends)
    | inr e ↦ subst (AllByRecursion (λ j. j < length given + 7)) (sym (interfaces_implemented given c e)) (named_within given c.implements)
  ]

  heading_of : length ids ≡ length given + 7 → AreIds order ids → (s : Source) (c : Class) → IsEntry given ids s c → IsHeading given order s c
  heading_of long are s c e = record {
    name = e.name;
    place = e.place;
    is_interface = e.is_interface;
    is_abstract = e.is_abstract;
    parent = subst (AllZip (IsId order) (superclass given s.tree)) (sym e.parent) (zip_ids long are (superclass given s.tree) (superclass_within s.tree));
    interfaces = subst (AllZip (IsId order) (interfaces given s.tree)) (sym e.interfaces) (zip_ids long are (interfaces given s.tree) (interfaces_within s.tree));
  }

  pub finish : (id : ℕ) (classes : List Class) → length ids ≡ length given + 7 → AreIds order ids → length order ≤ id → AreEntriesBelow given order ids id classes → AreEntries given order classes
  finish id classes long are all below = record {
    count = omega (arith, below.count, below.high, all);
    names = below.names;
    bare = below.bare;
    plain = below.plain;
    each = λ i n c s at id_is is. heading_of long are s c (below.each i n c s at id_is is);
  }

-- ---- the class of an id

module _ (given : List Source) (order : List ℕ) (numbering : IsNumbering given order) (whole : length order ≡ length given + 7) (id : ℕ) (low : 7 ≤ id) (l : id < length order) where
  pub is_given : 7 ≤ get_or order id 0
  is_given = by (nat_lt (get_or order id 0) 7) refl
    where
      by : (b : Bool) → nat_lt (get_or order id 0) 7 ≡ b → 7 ≤ get_or order id 0
      by true e =
          let a = get_or order id 0 in
          let m = ltb-true a 7 e in
          absurd (numbering.apart a id (omega (arith, m, low)) l (value order a a 0 (numbering.first a m)))
      by false e = ltb-false (get_or order id 0) 7 e

  pub seen_at : (list : List GivenClass) (x : GivenClass) → map seen list ≡ given → x ≡ get_or list (get_or order id 0 - 7) x → slice_get given (get_or order id 0 - 7) ≡ Some (seen x)
  seen_at list x e is =
      let k = get_or order id 0 - 7 in
      let same : length (map seen list) ≡ length given = ap (λ (ss : List Source). length ss) e in
      let inside_list : k < length list = omega (arith, is_given, numbering.within id l, same, length-map list seen) in
      subst (λ ss. slice_get ss k ≡ Some (seen x)) e (of_each seen list k x (there list k x inside_list ∙ ap (λ y. Some y) (sym is)))

  pub number_at : IsId order (7 + (get_or order id 0 - 7)) id
  number_at = let is : get_or order id 0 ≡ 7 + (get_or order id 0 - 7) = omega (arith, is_given) in there order id 0 l ∙ ap (λ k. Some k) is

pub ids_found : (given : List Source) (order ids : List ℕ) → IsNumbering given order → length order ≡ length given + 7 → length ids ≡ length order → ((k : ℕ) → k < length order → id_in ids (get_or order k 0) ≡ k) → AreIds order ids
ids_found given order ids numbering whole count set =
    are_ids (length given + 7) order ids (count ∙ whole) (all_there (length given + 7) order numbering.apart numbering.within (omega (arith, whole))) set
