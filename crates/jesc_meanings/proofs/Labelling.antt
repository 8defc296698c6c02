-- Labels and the numbers of the first items that have them.
use Rattle.std.proofs.Common.{◌≡◌, inl, inr, ℕ, zero, suc, ◌+◌, ◌<◌, Bool, true, false, true≢false, ◌&&◌, Option, Some, None, unwrap_or, List, [], ◌∷◌, ◌++◌, length, take, get_or, refl, ap, sym, ◌∙◌, arith, bytes_eq, nat_eq, nat_lt, ltb-true, ltb-false, eq-eqb, if◌then◌else◌}
use Rattle.std.specs.List.{All}
use Rattle.std.proofs.lemmas.Slice.Eq.{bytes_eq-Decides}
use Rattle.std.proofs.lemmas.Bool.Decides.{eqb_tells}
use Rattle.std.proofs.lemmas.List.{take_more, length-take-le, length_push, get_or_append_left, get_or_default, get_or_past, get_or_push}
use Rattle.jesc_classes.specs.Named.{Named}
use Rattle.jesc_classes.specs.laws.Orders.{same}
use Rattle.jesc_lookup.specs.Layers.{first_keyed}
use Rattle.jesc_lookup.specs.Lines.{or_else}
use Rattle.jesc_meanings.specs.Labels.{AreKeys, IsTableOf, Key, TakesItem, alike, first_labelled, is_labelled, key_by}
use Rattle.jesc_meanings.specs.Meanings.{first_at, first_that}

pub same_some : (x y : ℕ) → Some x ≡ Some y → x ≡ y
same_some x y e = cc

-- ---- labels

pub bytes_same : (name : List ℕ) → bytes_eq name name ≡ true
bytes_same name = (bytes_eq-Decides name name).1 refl

pub alike_decides : (a b : Key) → alike a b ≡ true → a ≡ b
alike_decides a b h = by (bytes_eq a.0 b.0) refl (nat_eq a.1 b.1) refl h
  where
    by : (p : Bool) → bytes_eq a.0 b.0 ≡ p → (q : Bool) → nat_eq a.1 b.1 ≡ q → (p && q) ≡ true → a ≡ b
    by true e true f h =
        let x : a.0 ≡ b.0 = (bytes_eq-Decides a.0 b.0).0 e in
        let y : a.1 ≡ b.1 = elim (eqb_tells a.1 b.1) [ inl t ↦ t.1 | inr n ↦ absurd (true≢false (sym f ∙ n.0)) ] in
        ap (λ t. (t, a.1)) x ∙ ap (λ n. (b.0, n)) y
    by true e false f h = absurd (true≢false (sym h))
    by false e q f h = absurd (true≢false (sym h))

alike_itself : (a : Key) → alike a a ≡ true
alike_itself a = ap (λ b. b && nat_eq a.1 a.1) (bytes_same a.0) ∙ eq-eqb a.1 a.1 refl

one_label : (label : Option Key) (a b : Key) → is_labelled a label ≡ true → is_labelled b label ≡ true → a ≡ b
one_label None a b e f = absurd (true≢false (sym e))
one_label (Some l) a b e f = alike_decides a l e ∙ sym (alike_decides b l f)

unequal : (x y : ℕ) → (x ≡ y → ⊥) → nat_eq x y ≡ false
unequal x y n = elim (eqb_tells x y) [ inl t ↦ absurd (n t.1) | inr f ↦ f.0 ]

pub or_none : (o : Option ℕ) → or_else o None ≡ o
or_none None = refl
or_none (Some x) = refl

-- ---- the first item of a label

pub some_or : (b : Bool) (x : ℕ) (o p : Option ℕ) → (if b then Some x else or_else o p) ≡ or_else (if b then Some x else o) p
some_or true x o p = refl
some_or false x o p = refl

first_push : {X : Type 0} (test : X → Bool) (n : ℕ) (xs : List X) (x : X) → first_at test n (xs ++ x ∷ []) ≡ or_else (first_at test n xs) (if test x then Some (n + length xs) else None)
first_push test n [] x = let e : n ≡ n + 0 = omega arith in ap (λ k. if test x then Some k else None) e
first_push test n (y ∷ xs) x =
    let e : (n + 1) + length xs ≡ n + suc (length xs) = omega arith in
    ap (λ r. if test y then Some n else r) (first_push test (n + 1) xs x ∙ ap (λ k. or_else (first_at test (n + 1) xs) (if test x then Some k else None)) e)
    ∙ some_or (test y) n (first_at test (n + 1) xs) (if test x then Some (n + suc (length xs)) else None)

first_is : {X : Type 0} (test : X → Bool) (n : ℕ) (xs : List X) (k : ℕ) (d : X) → first_at test n xs ≡ Some k → (j : ℕ) × (k ≡ n + j) × (j < length xs) × (test (get_or xs j d) ≡ true)
first_is test n [] k d e = absurd (cc)
first_is test n (x ∷ xs) k d e = by (test x) refl e (first_is test (n + 1) xs k d)
  where
    by : (b : Bool) → test x ≡ b → (if b then Some n else first_at test (n + 1) xs) ≡ Some k
        → (first_at test (n + 1) xs ≡ Some k → (j : ℕ) × (k ≡ (n + 1) + j) × (j < length xs) × (test (get_or xs j d) ≡ true))
        → (j : ℕ) × (k ≡ n + j) × (j < suc (length xs)) × (test (get_or (x ∷ xs) j d) ≡ true)
    by true t f h = let g : n ≡ k = same_some n k f in (0, omega (arith, g), omega arith, t)
    by false t f h = let r = h f in (suc r.0, omega (arith, r.1), omega (arith, r.2), r.3)

first_none : {X : Type 0} (test : X → Bool) (n : ℕ) (xs : List X) → first_at test n xs ≡ None → (i : ℕ) (d : X) → i < length xs → test (get_or xs i d) ≡ false
first_none test n [] e i d l = absurd (omega (arith, l))
first_none {X = X} test n (x ∷ xs) e i d l = by (test x) refl e (first_none test (n + 1) xs) i l
  where
    by : (b : Bool) → test x ≡ b → (if b then Some n else first_at test (n + 1) xs) ≡ None → (first_at test (n + 1) xs ≡ None → (i : ℕ) (d : X) → i < length xs → test (get_or xs i d) ≡ false)
        → (i : ℕ) → i < suc (length xs) → test (get_or (x ∷ xs) i d) ≡ false
    by true t f h i l = absurd (cc)
    by false t f h zero l = t
    by false t f h (suc i) l = h f i d (omega (arith, l))

module _ (labels : List (Option Key)) where
  -- the first item of a label has it
  labelled : (key : Key) (k : ℕ) → first_labelled key labels ≡ Some k → (k < length labels) × (is_labelled key (get_or labels k None) ≡ true)
  labelled key k e =
      let q = first_is (is_labelled key) 0 labels k None e in
      let s : q.0 ≡ k = omega (arith, q.1) in
      (omega (arith, q.1, q.2), ap (λ j. is_labelled key (get_or labels j None)) (sym s) ∙ q.3)

  -- no item has a label that has no first item
  unlabelled : (key : Key) → first_labelled key labels ≡ None → (i : ℕ) → is_labelled key (get_or labels i None) ≡ false
  unlabelled key e i = by (nat_lt i (length labels)) refl
    where
      by : (b : Bool) → nat_lt i (length labels) ≡ b → is_labelled key (get_or labels i None) ≡ false
      by true t = first_none (is_labelled key) 0 labels e i None (ltb-true i (length labels) t)
      by false t = ap (is_labelled key) (get_or_past labels i None (ltb-false i (length labels) t))

-- ---- the table takes up one item more

pub table_more : (labels : List (Option Key)) (i : ℕ) → i < length labels → (names : List (Named ℕ)) (rows : List (List (Option ℕ))) (new : List (Named ℕ)) (new_rows : List (List (Option ℕ))) (label : Option Key) → label ≡ get_or labels i None
    → TakesItem names rows label i new new_rows → IsTableOf (take i labels) names rows → IsTableOf (take (i + 1) labels) new new_rows
table_more labels i inside names rows new new_rows label is takes h = record {
  named = takes.named;
  each = λ key.
      takes.each key
      ∙ ap (λ o. or_else o (if is_labelled key label then Some i else None)) (h.each key)
      ∙ ap (λ l. or_else (first_labelled key (take i labels)) (if is_labelled key l then Some i else None)) is
      ∙ ap (λ k. or_else (first_labelled key (take i labels)) (if is_labelled key (get_or labels i None) then Some k else None)) long
      ∙ sym (first_push (is_labelled key) 0 (take i labels) (get_or labels i None))
      ∙ ap (first_at (is_labelled key) 0) (sym (take_more labels i None inside));
}
  where
    long : i ≡ 0 + length (take i labels)
    long = omega (arith, length-take-le i labels (omega (arith, inside)))

-- ---- keys

pub key_same : (f g : Key → Option ℕ) (item : ℕ) (label : Option Key) → ((key : Key) → f key ≡ g key) → key_by f item label ≡ key_by g item label
key_same f g item None h = refl
key_same f g item (Some key) h = ap (λ o. unwrap_or o item) (h key)

module _ (labels : List (Option Key)) (keys : List ℕ) (are : AreKeys labels keys) where
  -- items of the label are those of its key
  agree : (key : Key) (k : ℕ) → first_labelled key labels ≡ Some k → (i : ℕ) → i < length labels → is_labelled key (get_or labels i None) ≡ nat_eq k (get_or keys i 0)
  agree key k found i l = by (get_or labels i None) refl
    where
      apart : is_labelled key (get_or labels i None) ≡ false → nat_eq k i ≡ false
      apart f = unequal k i (λ s. true≢false (sym (labelled labels key k found).1 ∙ ap (λ j. is_labelled key (get_or labels j None)) s ∙ f))

      other_key : (other : Key) → alike key other ≡ false → (k2 : ℕ) → first_labelled other labels ≡ Some k2 → nat_eq k k2 ≡ false
      other_key other f k2 e =
          unequal k k2 (λ s.
          let same = one_label (get_or labels k None) key other (labelled labels key k found).1 (ap (λ j. is_labelled other (get_or labels j None)) s ∙ (labelled labels other k2 e).1) in
          true≢false (sym (alike_itself key) ∙ ap (alike key) same ∙ f))

      of_key : (other : Key) → get_or labels i None ≡ Some other → alike key other ≡ false → (o : Option ℕ) → first_labelled other labels ≡ o → nat_eq k (unwrap_or o i) ≡ false
      of_key other e f None g = apart (ap (is_labelled key) e ∙ f)
      of_key other e f (Some k2) g = other_key other f k2 g

      is_like : (other : Key) → get_or labels i None ≡ Some other → (b : Bool) → alike key other ≡ b → b ≡ nat_eq k (unwrap_or (first_labelled other labels) i)
      is_like other e true t =
          let s : first_labelled other labels ≡ Some k = ap (λ x. first_labelled x labels) (sym (alike_decides key other t)) ∙ found in
          sym (ap (λ o. nat_eq k (unwrap_or o i)) s ∙ eq-eqb k k refl)
      is_like other e false t = sym (of_key other e t (first_labelled other labels) refl)

      by : (o : Option Key) → get_or labels i None ≡ o → is_labelled key (get_or labels i None) ≡ nat_eq k (get_or keys i 0)
      by None e = ap (is_labelled key) e ∙ sym (ap (nat_eq k) (are.each i l ∙ ap (key_by (λ x. first_labelled x labels) i) e) ∙ apart (ap (is_labelled key) e))
      by (Some other) e = ap (is_labelled key) e ∙ is_like other e (alike key other) refl ∙ sym (ap (nat_eq k) (are.each i l ∙ ap (key_by (λ x. first_labelled x labels) i) e))

  pub own_by_key : (key : Key) (k : ℕ) → first_labelled key labels ≡ Some k → (row : List ℕ) → All (λ i. i < length labels) row → first_that (λ i. is_labelled key (get_or labels i None)) row ≡ first_keyed keys k row
  own_by_key key k found [] h = refl
  own_by_key key k found (i ∷ row) h =
      ap (λ b. if b then Some i else first_that (λ j. is_labelled key (get_or labels j None)) row) (agree key k found i (h 0 0 (omega arith)))
      ∙ ap (λ r. if nat_eq k (get_or keys i 0) then Some i else r) (own_by_key key k found row (λ j d l. h (suc j) d (omega (arith, l))))

  key_small : (i : ℕ) → i < length labels → (o : Option Key) → key_by (λ x. first_labelled x labels) i o < length labels
  key_small i l None = l
  key_small i l (Some key) = by (first_labelled key labels) refl
    where
      by : (o : Option ℕ) → first_labelled key labels ≡ o → unwrap_or o i < length labels
      by None e = l
      by (Some k) e = (labelled labels key k e).0

  pub small_keys : All (λ key. key < length keys) keys
  small_keys i d l =
      let inside : i < length labels = omega (arith, l, are.count) in
      let small = key_small i inside (get_or labels i None) in
      let is : get_or keys i d ≡ key_by (λ x. first_labelled x labels) i (get_or labels i None) = get_or_default keys i d 0 l ∙ are.each i inside in
      omega (arith, small, is, are.count)

pub own_none : (labels : List (Option Key)) (key : Key) → first_labelled key labels ≡ None → (row : List ℕ) → first_that (λ i. is_labelled key (get_or labels i None)) row ≡ None
own_none labels key e [] = refl
own_none labels key e (i ∷ row) = ap (λ b. if b then Some i else first_that (λ j. is_labelled key (get_or labels j None)) row) (unlabelled labels key e i) ∙ own_none labels key e row

-- one key more
pub keys_more : (labels : List (Option Key)) (i : ℕ) (keys more : List ℕ) (key : ℕ) → more ≡ keys ++ key ∷ [] → key ≡ key_by (λ k. first_labelled k labels) i (get_or labels i None)
    → (length keys ≡ i) × ((j : ℕ) → j < i → get_or keys j 0 ≡ key_by (λ k. first_labelled k labels) j (get_or labels j None))
    → (length more ≡ i + 1) × ((j : ℕ) → j < i + 1 → get_or more j 0 ≡ key_by (λ k. first_labelled k labels) j (get_or labels j None))
keys_more labels i keys more key grows is h = (
  ap length grows ∙ length_push keys key ∙ ap (λ n. n + 1) h.0,
  λ j l. ap (λ ks. get_or ks j 0) grows ∙ elim (same j i) [
    | inl e ↦ get_or_push keys key 0 j (h.0 ∙ sym e) ∙ is ∙ ap (λ n. key_by (λ k. first_labelled k labels) n (get_or labels n None)) (sym e)
    | inr n ↦ get_or_append_left keys (key ∷ []) 0 j (omega (arith, l, n, h.0)) ∙ h.1 j (omega (arith, l, n))
  ],
)
