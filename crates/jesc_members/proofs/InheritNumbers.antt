-- Keys and rows of items.
use Rattle.std.proofs.Common.{◌≡◌, inl, inr, ℕ, suc, ◌+◌, ◌<◌, Bool, true, false, ◌&&◌, List, [], ◌∷◌, ◌++◌, length, get_or, set, take, map, Option, Some, None, refl, ap, sym, ◌∙◌, subst, arith, nat_eq, bytes_eq, true≢false, eq-eqb, if◌then◌else◌}
use Rattle.std.specs.List.{All}
use Rattle.std.proofs.lemmas.Slice.Eq.{bytes_eq-Decides}
use Rattle.std.proofs.lemmas.Bool.Decides.{eqb_tells}
use Rattle.std.proofs.lemmas.List.{get_or_append_left, get_or_push, get_or-set_same, get_or-set_other, length-set, length_push, take_more, get_or_default, length-take-le, append-nil, get_or-map, length-map}
use Rattle.std.proofs.lemmas.List.Elements.{All-nil, All-cons}
use Rattle.jesc_classes.specs.Named.{Named, find}
use Rattle.jesc_classes.specs.laws.Orders.{same}
use Rattle.jesc_classes.specs.laws.Lawful.{same_some}
use Rattle.jesc_members.specs.Fields.{first_that}
use Rattle.jesc_lookup.specs.Lines.{or_else}
use Rattle.jesc_members.specs.Keys.{AreRows, HasKeys, HasNames, TakesName, first_equal, numbers_of}
use Rattle.jesc_lookup.specs.Layers.{first_keyed}

some_or : (b : Bool) (x : ℕ) (o p : Option ℕ) → (if b then Some x else or_else o p) ≡ or_else (if b then Some x else o) p
some_or true x o p = refl
some_or false x o p = refl

pub equal_push : {L : Type 0} (like : L → L → Bool) (n : ℕ) (label : L) (xs : List L) (x : L)
    → first_equal like n label (xs ++ x ∷ []) ≡ or_else (first_equal like n label xs) (if like label x then Some (n + length xs) else None)
equal_push like n label [] x = let e : n ≡ n + 0 = omega arith in ap (λ k. if like label x then Some k else None) e
equal_push like n label (y ∷ xs) x =
    let e : (n + 1) + length xs ≡ n + suc (length xs) = omega arith in
    ap (λ r. if like label y then Some n else r) (equal_push like (n + 1) label xs x ∙ ap (λ k. or_else (first_equal like (n + 1) label xs) (if like label x then Some k else None)) e)
    ∙ some_or (like label y) n (first_equal like (n + 1) label xs) (if like label x then Some (n + suc (length xs)) else None)

find_push : (table : List (Named ℕ)) (key : List ℕ) (value : ℕ) (name : List ℕ) → find name (table ++ (key, value) ∷ []) ≡ or_else (find name table) (if bytes_eq name key then Some value else None)
find_push [] key value name = refl
find_push (e ∷ table) key value name =
    ap (λ r. if bytes_eq name e.0 then Some e.1 else r) (find_push table key value name)
    ∙ some_or (bytes_eq name e.0) e.1 (find name table) (if bytes_eq name key then Some value else None)

or_some : (o p : Option ℕ) (v : ℕ) → o ≡ Some v → or_else o p ≡ Some v
or_some o p v e = ap (λ a. or_else a p) e

or_none : (o : Option ℕ) → or_else o None ≡ o
or_none None = refl
or_none (Some x) = refl

pub bytes_same : (name : List ℕ) → bytes_eq name name ≡ true
bytes_same name = (bytes_eq-Decides name name).1 refl

-- the name is there
pub took : (table : List (Named ℕ)) (name : List ℕ) (number key : ℕ) → find name table ≡ Some key → TakesName table name number table key
took table name number key got = record {
  named = λ names count firsts other. by other names (firsts other) (bytes_eq other name) refl ∙ sym (equal_push bytes_eq 0 other names name);
  found = got;
}
  where
    by : (other : List ℕ) (names : List (List ℕ)) → find other table ≡ first_equal bytes_eq 0 other names → (b : Bool) → bytes_eq other name ≡ b
        → find other table ≡ or_else (first_equal bytes_eq 0 other names) (if bytes_eq other name then Some (0 + length names) else None)
    by other names is true e =
        let some : first_equal bytes_eq 0 other names ≡ Some key = sym is ∙ ap (λ k. find k table) ((bytes_eq-Decides other name).0 e) ∙ got in
        is ∙ some ∙ sym (or_some (first_equal bytes_eq 0 other names) (if bytes_eq other name then Some (0 + length names) else None) key some)
    by other names is false e = is ∙ sym (ap (λ b. or_else (first_equal bytes_eq 0 other names) (if b then Some (0 + length names) else None)) e ∙ or_none (first_equal bytes_eq 0 other names))

-- it isn't
pub added : (table new : List (Named ℕ)) (name : List ℕ) (number : ℕ) → find name table ≡ None → new ≡ table ++ (name, number) ∷ [] → TakesName table name number new number
added table new name number none is = record {
  named = λ names count firsts other.
      ap (find other) is ∙ find_push table name number other
      ∙ ap (λ o. or_else o (if bytes_eq other name then Some number else None)) (firsts other)
      ∙ ap (λ k. or_else (first_equal bytes_eq 0 other names) (if bytes_eq other name then Some k else None)) (zeroth number names count)
      ∙ sym (equal_push bytes_eq 0 other names name);
  found = ap (find name) is ∙ find_push table name number name ∙ ap (λ o. or_else o (if bytes_eq name name then Some number else None)) none ∙ ap (λ b. if b then Some number else None) (bytes_same name);
}
  where
    zeroth : (number : ℕ) (names : List (List ℕ)) → number ≡ length names → number ≡ 0 + length names
    zeroth number names e = omega (arith, e)

-- ---- keys

module _ (L : Type 0) (like : L → L → Bool) where
  pub no_keys : HasKeys L like [] []
  no_keys = record { count = refl; each = λ i d l. absurd (omega (arith, l)) }

  pub keys_push : (labels : List L) (keys : List ℕ) (label : L) (key : ℕ) → first_equal like 0 label (labels ++ label ∷ []) ≡ Some key → HasKeys L like labels keys → HasKeys L like (labels ++ label ∷ []) (keys ++ key ∷ [])
  keys_push labels keys label key is h = record {
    count = length_push keys key ∙ ap (λ n. n + 1) h.count ∙ sym (length_push labels label);
    each = λ i d l. elim (same i (length labels)) [
      | inl e ↦ ap (λ x. first_equal like 0 x (labels ++ label ∷ [])) (get_or_push labels label d i (sym e)) ∙ is ∙ ap Some (sym (get_or_push keys key 0 i (h.count ∙ sym e)))
      | inr n ↦ before i d (omega (arith, n, l, length_push labels label))
    ];
  }
    where
      before : (i : ℕ) (d : L) → i < length labels → first_equal like 0 (get_or (labels ++ label ∷ []) i d) (labels ++ label ∷ []) ≡ Some (get_or (keys ++ key ∷ []) i 0)
      before i d l =
          let x : L = get_or labels i d in
          ap (λ y. first_equal like 0 y (labels ++ label ∷ [])) (get_or_append_left labels (label ∷ []) d i l)
          ∙ equal_push like 0 x labels label
          ∙ or_some (first_equal like 0 x labels) (if like x label then Some (0 + length labels) else None) (get_or keys i 0) (h.each i d l)
          ∙ ap Some (sym (get_or_append_left keys (key ∷ []) 0 i (omega (arith, l, h.count))))

  below : (n : ℕ) (label : L) (xs : List L) (k : ℕ) → first_equal like n label xs ≡ Some k → k < n + length xs
  below n label [] k e = absurd (cc)
  below n label (x ∷ xs) k e = by (like label x) (λ f. below (n + 1) label xs k f) e
    where
      by : (b : Bool) → (first_equal like (n + 1) label xs ≡ Some k → k < (n + 1) + length xs) → (if b then Some n else first_equal like (n + 1) label xs) ≡ Some k → k < n + suc (length xs)
      by true h f = let g : n ≡ k = same_some n k f in omega (arith, g)
      by false h f = omega (arith, h f)

  item_of : (xs : List L) (i : ℕ) → i < length xs → L
  item_of [] i l = absurd (omega (arith, l))
  item_of (x ∷ xs) i l = x

  pub small_keys : (labels : List L) (keys : List ℕ) → HasKeys L like labels keys → All (λ key. key < length keys) keys
  small_keys labels keys h i d l =
      let inside : i < length labels = omega (arith, l, h.count) in
      let e = h.each i (item_of labels i inside) inside in
      let b = below 0 (get_or labels i (item_of labels i inside)) labels (get_or keys i 0) e in
      subst (λ k. k < length keys) (get_or_default keys i 0 d l) (omega (arith, b, h.count))

-- ---- rows

pub numbers_push : (class n : ℕ) (owners : List ℕ) (owner : ℕ) → numbers_of class n (owners ++ owner ∷ []) ≡ numbers_of class n owners ++ (if nat_eq class owner then (n + length owners) ∷ [] else [])
numbers_push class n [] owner = let e : n ≡ n + 0 = omega arith in ap (λ k. if nat_eq class owner then k ∷ [] else []) e
numbers_push class n (o ∷ owners) owner =
    let e : (n + 1) + length owners ≡ n + suc (length owners) = omega arith in
    let h = numbers_push class (n + 1) owners owner ∙ ap (λ k. numbers_of class (n + 1) owners ++ (if nat_eq class owner then k ∷ [] else [])) e in
    ap (λ r. if nat_eq class o then n ∷ r else r) h ∙ by (nat_eq class o)
  where
    by : (b : Bool) → (if b then n ∷ (numbers_of class (n + 1) owners ++ (if nat_eq class owner then (n + suc (length owners)) ∷ [] else [])) else (numbers_of class (n + 1) owners ++ (if nat_eq class owner then (n + suc (length owners)) ∷ [] else [])))
        ≡ (if b then n ∷ numbers_of class (n + 1) owners else numbers_of class (n + 1) owners) ++ (if nat_eq class owner then (n + suc (length owners)) ∷ [] else [])
    by true = refl
    by false = refl

pub numbers_below : (class n : ℕ) (owners : List ℕ) → All (λ i. i < n + length owners) (numbers_of class n owners)
numbers_below class n [] = All-nil (λ i. i < n + 0)
numbers_below class n (o ∷ owners) = by (nat_eq class o) (wider (numbers_below class (n + 1) owners))
  where
    wider : All (λ i. i < (n + 1) + length owners) (numbers_of class (n + 1) owners) → All (λ i. i < n + suc (length owners)) (numbers_of class (n + 1) owners)
    wider h k d l = omega (arith, h k d l)

    by : (b : Bool) → All (λ i. i < n + suc (length owners)) (numbers_of class (n + 1) owners) → All (λ i. i < n + suc (length owners)) (if b then n ∷ numbers_of class (n + 1) owners else numbers_of class (n + 1) owners)
    by true h = All-cons (λ i. i < n + suc (length owners)) n (numbers_of class (n + 1) owners) (omega arith) h
    by false h = h

module _ (classes : ℕ) (owners : List ℕ) (i : ℕ) (inside : i < length owners) where
  pushed : (class : ℕ) → numbers_of class 0 (take i owners) ++ (if nat_eq class (get_or owners i 0) then i ∷ [] else []) ≡ numbers_of class 0 (take (i + 1) owners)
  pushed class =
      let e : i ≡ 0 + length (take i owners) = omega (arith, length-take-le i owners (omega (arith, inside))) in
      ap (λ k. numbers_of class 0 (take i owners) ++ (if nat_eq class (get_or owners i 0) then k ∷ [] else [])) e
      ∙ sym (numbers_push class 0 (take i owners) (get_or owners i 0)) ∙ ap (numbers_of class 0) (sym (take_more owners i 0 inside))

  last_same : (class : ℕ) → class ≡ get_or owners i 0 → (if nat_eq class (get_or owners i 0) then i ∷ [] else []) ≡ i ∷ []
  last_same class e = ap (λ b. if b then i ∷ [] else []) (eq-eqb class (get_or owners i 0) e)

  last_other : (class : ℕ) → (class ≡ get_or owners i 0 → ⊥) → (if nat_eq class (get_or owners i 0) then i ∷ [] else []) ≡ []
  last_other class n = elim (eqb_tells class (get_or owners i 0)) [
    | inl t ↦ absurd (n t.1)
    | inr f ↦ ap (λ b. if b then i ∷ [] else []) f.0
  ]

  pub rows_more : (rows : List (List ℕ)) (row new : List ℕ) → get_or owners i 0 < classes → row ≡ get_or rows (get_or owners i 0) row → new ≡ row ++ i ∷ []
      → AreRows classes (take i owners) rows → AreRows classes (take (i + 1) owners) (set rows (get_or owners i 0) new)
  rows_more rows row new small was is h = record {
    count = length-set rows (get_or owners i 0) new ∙ h.count;
    each = λ class c. elim (same class (get_or owners i 0)) [
      | inl e ↦ ap (λ x. get_or (set rows (get_or owners i 0) new) x []) e ∙ get_or-set_same rows (get_or owners i 0) new [] (omega (arith, small, h.count)) ∙ is
          ∙ ap (λ r. r ++ i ∷ []) (was ∙ get_or_default rows (get_or owners i 0) row [] (omega (arith, small, h.count)) ∙ ap (λ x. get_or rows x []) (sym e) ∙ h.each class c)
          ∙ ap (λ r. numbers_of class 0 (take i owners) ++ r) (sym (last_same class e)) ∙ pushed class
      | inr n ↦ get_or-set_other rows (get_or owners i 0) class new [] n ∙ h.each class c
          ∙ sym (append-nil (numbers_of class 0 (take i owners))) ∙ ap (λ r. numbers_of class 0 (take i owners) ++ r) (sym (last_other class n)) ∙ pushed class
    ];
  }

pub empty_more : (n : ℕ) (rows new : List (List ℕ)) (row : List ℕ) → row ≡ [] → new ≡ rows ++ row ∷ [] → AreRows n [] rows → AreRows (n + 1) [] new
empty_more n rows new row empty is h = record {
  count = ap length is ∙ length_push rows row ∙ ap (λ k. k + 1) h.count;
  each = λ class l. ap (λ rs. get_or rs class []) is ∙ elim (same class n) [
    | inl e ↦ get_or_push rows row [] class (h.count ∙ sym e) ∙ empty
    | inr d ↦ get_or_append_left rows (row ∷ []) [] class (omega (arith, l, d, h.count)) ∙ h.each class (omega (arith, l, d))
  ];
}

pub names_more : (names : List (List ℕ)) (i : ℕ) → i < length names → (table new : List (Named ℕ)) (name : List ℕ) (key : ℕ) (keys more : List ℕ) → name ≡ get_or names i [] → TakesName table name i new key → more ≡ keys ++ key ∷ []
    → HasNames table (take i names) → HasKeys (List ℕ) bytes_eq (take i names) keys → HasNames new (take (i + 1) names) × HasKeys (List ℕ) bytes_eq (take (i + 1) names) more
names_more names i inside table new name key keys more is takes grows had has =
    let long : i ≡ length (take i names) = omega (arith, length-take-le i names (omega (arith, inside))) in
    let pushed : take i names ++ name ∷ [] ≡ take (i + 1) names = ap (λ x. take i names ++ x ∷ []) is ∙ sym (take_more names i [] inside) in
    let named = takes.named (take i names) long had in (
      subst (λ ns. HasNames new ns) pushed named,
      subst (λ ns. HasKeys (List ℕ) bytes_eq ns more) pushed (subst (λ ks. HasKeys (List ℕ) bytes_eq (take i names ++ name ∷ []) ks) (sym grows) (keys_push (List ℕ) bytes_eq (take i names) keys name key (sym (named name) ∙ takes.found) has)),
    )

-- ---- what a class declares itself under a label

module _ (L X : Type 0) (like : L → L → Bool) (decides : (a b : L) → like a b ≡ true → a ≡ b) (reflexive : (a : L) → like a a ≡ true) (owner : X → ℕ) (label_of : X → L) where
  none_like : (n m class : ℕ) (label : L) (xs : List X) → first_equal like n label (map label_of xs) ≡ None → first_that (λ x. nat_eq class (owner x) && like label (label_of x)) m xs ≡ None
  none_like n m class label [] e = refl
  none_like n m class label (x ∷ xs) e = by (like label (label_of x)) (nat_eq class (owner x)) (λ f. none_like (n + 1) (m + 1) class label xs f) e
    where
      by : (b c : Bool) → (first_equal like (n + 1) label (map label_of xs) ≡ None → first_that (λ y. nat_eq class (owner y) && like label (label_of y)) (m + 1) xs ≡ None)
          → (if b then Some n else first_equal like (n + 1) label (map label_of xs)) ≡ None
          → (if (c && b) then Some m else first_that (λ y. nat_eq class (owner y) && like label (label_of y)) (m + 1) xs) ≡ None
      by true c h f = absurd (cc)
      by false true h f = h f
      by false false h f = h f

  -- a test of labels is a test of keys
  pub by_keys : (keys : List ℕ) (key class : ℕ) (label : L) (xs : List X) (n : ℕ)
      → ((i : ℕ) (d : X) → i < length xs → like label (label_of (get_or xs i d)) ≡ nat_eq key (get_or keys (n + i) 0))
      → first_that (λ x. nat_eq class (owner x) && like label (label_of x)) n xs ≡ first_keyed keys key (numbers_of class n (map owner xs))
  by_keys keys key class label [] n h = refl
  by_keys keys key class label (x ∷ xs) n h = by (nat_eq class (owner x)) (like label (label_of x)) here (by_keys keys key class label xs (n + 1) rest)
    where
      here : like label (label_of x) ≡ nat_eq key (get_or keys n 0)
      here = let e : n + 0 ≡ n = omega arith in h 0 x (omega arith) ∙ ap (λ k. nat_eq key (get_or keys k 0)) e

      rest : (i : ℕ) (d : X) → i < length xs → like label (label_of (get_or xs i d)) ≡ nat_eq key (get_or keys ((n + 1) + i) 0)
      rest i d l = let e : n + suc i ≡ (n + 1) + i = omega arith in h (suc i) d (omega (arith, l)) ∙ ap (λ k. nat_eq key (get_or keys k 0)) e

      by : (c b : Bool) → b ≡ nat_eq key (get_or keys n 0) → first_that (λ y. nat_eq class (owner y) && like label (label_of y)) (n + 1) xs ≡ first_keyed keys key (numbers_of class (n + 1) (map owner xs))
          → (if (c && b) then Some n else first_that (λ y. nat_eq class (owner y) && like label (label_of y)) (n + 1) xs) ≡ first_keyed keys key (if c then n ∷ numbers_of class (n + 1) (map owner xs) else numbers_of class (n + 1) (map owner xs))
      by false b e i = i
      by true b e i = ap (λ r. if b then Some n else r) i ∙ ap (λ t. if t then Some n else first_keyed keys key (numbers_of class (n + 1) (map owner xs))) e

  pub found_like : (n : ℕ) (label : L) (labels : List L) (k : ℕ) (d : L) → first_equal like n label labels ≡ Some k → (j : ℕ) × (k ≡ n + j) × (j < length labels) × (get_or labels j d ≡ label)
  found_like n label [] k d e = absurd (cc)
  found_like n label (x ∷ labels) k d e = by (like label x) refl e (λ f. found_like (n + 1) label labels k d f)
    where
      by : (b : Bool) → like label x ≡ b → (if b then Some n else first_equal like (n + 1) label labels) ≡ Some k
          → (first_equal like (n + 1) label labels ≡ Some k → (j : ℕ) × (k ≡ (n + 1) + j) × (j < length labels) × (get_or labels j d ≡ label))
          → (j : ℕ) × (k ≡ n + j) × (j < suc (length labels)) × (get_or (x ∷ labels) j d ≡ label)
      by true t f h = let g : n ≡ k = same_some n k f in (0, omega (arith, g), omega arith, sym (decides label x t))
      by false t f h = let r = h f in (suc r.0, omega (arith, r.1), omega (arith, r.2), r.3)

  agree : (labels : List L) (keys : List ℕ) (key : ℕ) (label : L) → HasKeys L like labels keys → first_equal like 0 label labels ≡ Some key
      → (i : ℕ) (d : L) → i < length labels → like label (get_or labels i d) ≡ nat_eq key (get_or keys i 0)
  agree labels keys key label h found i d l = by (like label (get_or labels i d)) refl
    where
      by : (b : Bool) → like label (get_or labels i d) ≡ b → b ≡ nat_eq key (get_or keys i 0)
      by true t =
          let e : label ≡ get_or labels i d = decides label (get_or labels i d) t in
          let k : key ≡ get_or keys i 0 = same_some key (get_or keys i 0) (sym found ∙ ap (λ x. first_equal like 0 x labels) e ∙ h.each i d l) in
          sym (eq-eqb key (get_or keys i 0) k)
      by false t = elim (eqb_tells key (get_or keys i 0)) [
        | inl e ↦
            let other = h.each i d l ∙ ap Some (sym e.1) in
            let p = found_like 0 label labels key d found in
            let q = found_like 0 (get_or labels i d) labels key d other in
            let j : p.0 ≡ q.0 = omega (arith, p.1, q.1) in
            let s : label ≡ get_or labels i d = sym p.3 ∙ ap (λ x. get_or labels x d) j ∙ q.3 in
            absurd (true≢false (sym (reflexive label) ∙ ap (like label) s ∙ t))
        | inr f ↦ sym f.0
      ]

  -- the first of a class's items of the label has the label's key
  pub own_by_key : (keys : List ℕ) (rows : List (List ℕ)) (xs : List X) (classes : ℕ) → HasKeys L like (map label_of xs) keys → AreRows classes (map owner xs) rows → (key class : ℕ) (label : L) → class < classes
      → first_equal like 0 label (map label_of xs) ≡ Some key → first_that (λ x. nat_eq class (owner x) && like label (label_of x)) 0 xs ≡ first_keyed keys key (get_or rows class [])
  own_by_key keys rows xs classes h rs key class label inside found =
      by_keys keys key class label xs 0 (λ i d l.
      let e : i ≡ 0 + i = omega arith in
      ap (like label) (sym (get_or-map label_of xs i d (label_of d) l))
      ∙ agree (map label_of xs) keys key label h found i (label_of d) (omega (arith, l, length-map xs label_of))
      ∙ ap (λ k. nat_eq key (get_or keys k 0)) e)
      ∙ ap (first_keyed keys key) (sym (rs.each class inside))

  pub own_none : (xs : List X) (class : ℕ) (label : L) → first_equal like 0 label (map label_of xs) ≡ None → first_that (λ x. nat_eq class (owner x) && like label (label_of x)) 0 xs ≡ None
  own_none xs class label e = none_like 0 0 class label xs e
