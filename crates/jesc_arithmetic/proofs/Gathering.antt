-- Lists into which items are put that they don't have, where a test tells whether items are equal.
use Rattle.std.proofs.Common.{◌≡◌, ◌≢◌, AllPairs, Bool, true, false, not, ◌||◌, ◌&&◌, cond, List, [], ◌∷◌, ◌++◌, fold, get_or, filter, Contains, All, Decides, refl, sym, ap, ◌∙◌, subst, append_assoc, if◌then◌else◌}
use Rattle.std.specs.List.{list_any}
use Rattle.std.proofs.lemmas.Bool.Decides.{same_from_decides}
use Rattle.std.proofs.lemmas.List.{append-nil}
use Rattle.std.proofs.lemmas.List.Elements.{All-nil, All-cons, All-head, All-tail, All-weaker, Contains-append_left, All-filter, All-contains, All-contains_itself, All-from_recursion, recursion_from_All, filter_passes}
use Rattle.std.specs.List.{AllByRecursion}
use Rattle.std.specs.List.{IsDistinct}
use Rattle.std.proofs.lemmas.Map.Keys.{IsDistinct-head, IsDistinct-tail, IsDistinct-cons}
use Rattle.std.proofs.lemmas.Map.Made.{AllPairs-from_IsDistinct}
use Rattle.std.proofs.lemmas.List.Folds.{list_any-append, list_any_at}
use Rattle.indexmap.specs.IndexSet.{insert_key}
use Rattle.indexmap.proofs.CallerLemmas.{Contains-insert_key}
use Rattle.jesc_arithmetic.specs.Firsts.{firsts}

abbrev pub gathered : {T : Type 0} → (T → T → Bool) → List T → List T → List T
gathered same ks xs = fold (insert_key same) ks xs

pub gathered_append : {T : Type 0} (same : T → T → Bool) (ks xs ys : List T) → gathered same ks (xs ++ ys) ≡ gathered same (gathered same ks xs) ys
gathered_append same ks [] ys = refl
gathered_append same ks (x ∷ xs) ys = gathered_append same (insert_key same ks x) xs ys

module _ {T : Type 0} (same : T → T → Bool) (decides : (x y : T) → Decides (same x y) (x ≡ y)) where
  -- an item that the list contains is found
  pub found_in : (ks : List T) (k : T) → Contains ks k → list_any (same k) ks ≡ true
  found_in ks k h = list_any_at (same k) ks h.0 k h.1 ((decides k (get_or ks h.0 k)).1 (sym h.2))

  pub insert_present : (ks : List T) (k : T) → Contains ks k → insert_key same ks k ≡ ks
  insert_present ks k h = ap (λ (b : Bool). if b then ks else ks ++ k ∷ []) (found_in ks k h)

  pub insert_grows : (ks : List T) (k x : T) → Contains ks x → Contains (insert_key same ks k) x
  insert_grows ks k x h = by (list_any (same k) ks)
    where
      by : (b : Bool) → Contains (if b then ks else ks ++ k ∷ []) x
      by true = h
      by false = Contains-append_left ks (k ∷ []) x h

  pub gathered_grows : (ks xs : List T) (x : T) → Contains ks x → Contains (gathered same ks xs) x
  gathered_grows ks [] x h = h
  gathered_grows ks (y ∷ xs) x h = gathered_grows (insert_key same ks y) xs x (insert_grows ks y x h)

  -- where all are there, none is put in
  pub gathered_present : (ks xs : List T) → All (Contains ks) xs → gathered same ks xs ≡ ks
  gathered_present ks [] h = refl
  gathered_present ks (x ∷ xs) h =
      let e = insert_present ks x (All-head (Contains ks) x xs h) in
      ap (λ (l : List T). gathered same l xs) e ∙ gathered_present ks xs (All-tail (Contains ks) x xs h)

  pub gathered_all : (ks xs : List T) → All (Contains (gathered same ks xs)) xs
  gathered_all ks [] = All-nil (Contains ks)
  gathered_all ks (x ∷ xs) =
      let later = gathered same (insert_key same ks x) xs in
      All-cons (Contains later) x xs (gathered_grows (insert_key same ks x) xs x (Contains-insert_key same (λ a b. (decides a b).0) ks x)) (gathered_all (insert_key same ks x) xs)

-- ---- gathered from nothing, these are the first ones

-- neither of two tests holds
neither : (a b : Bool) → not a && not b ≡ not (b || (a || false))
neither true true = refl
neither true false = refl
neither false true = refl
neither false false = refl

module _ {T : Type 0} where
  filter_step : (p : T → Bool) (a c : Bool) (x : T) (ys us : List T) → a && p x ≡ c → filter p ys ≡ us → filter p (cond a (x ∷ ys) ys) ≡ cond c (x ∷ us) us
  filter_step p true c x ys us e h = λ i. cond (e i) (x ∷ h i) (h i)
  filter_step p false c x ys us e h = h ∙ (λ i. cond (e i) (x ∷ us) us)

  filter_twice : (p q r : T → Bool) → ((y : T) → q y && p y ≡ r y) → (xs : List T) → filter p (filter q xs) ≡ filter r xs
  filter_twice p q r same [] = refl
  filter_twice p q r same (x ∷ xs) = filter_step p (q x) (r x) x (filter q xs) (filter r xs) (same x) (filter_twice p q r same xs)

  filter_all : (xs : List T) → filter (λ y. true) xs ≡ xs
  filter_all [] = refl
  filter_all (x ∷ xs) = ap (λ (l : List T). x ∷ l) (filter_all xs)

module _ {T : Type 0} (same : T → T → Bool) (decides : (x y : T) → Decides (same x y) (x ≡ y)) where
  abbrev pub is_absent : List T → T → Bool
  is_absent ks y = not (list_any (same y) ks)

  turned : (x y : T) → same x y ≡ same y x
  turned x y = same_from_decides (same x y) (same y x) (decides x y) ((λ e. sym ((decides y x).0 e)), λ e. (decides y x).1 (sym e))

  -- what isn't in the list is no item of it
  other : (ks : List T) (x y : T) → list_any (same x) ks ≡ true → not (same x y) && is_absent ks y ≡ is_absent ks y
  other ks x y e = by (same x y) refl
    where
      by : (b : Bool) → same x y ≡ b → not b && is_absent ks y ≡ is_absent ks y
      by true h = sym (ap not (ap (λ (z : T). list_any (same z) ks) (sym ((decides x y).0 h)) ∙ e))
      by false h = refl

  beside : (ks : List T) (x y : T) → not (same x y) && is_absent ks y ≡ is_absent (ks ++ x ∷ []) y
  beside ks x y = neither (same x y) (list_any (same y) ks) ∙ (λ i. not (list_any (same y) ks || (turned x y i || false))) ∙ ap not (sym (list_any-append (same y) ks (x ∷ [])))

  gathered_firsts : (ks xs : List T) → gathered same ks xs ≡ ks ++ filter (is_absent ks) (firsts same xs)
  gathered_firsts ks [] = sym (append-nil ks)
  gathered_firsts ks (x ∷ xs) = by (list_any (same x) ks) refl (λ l. gathered_firsts l xs)
    where
      rest : List T
      rest = filter (is_absent ks) (filter (λ y. not (same x y)) (firsts same xs))

      by : (b : Bool) → list_any (same x) ks ≡ b → ((l : List T) → gathered same l xs ≡ l ++ filter (is_absent l) (firsts same xs)) → gathered same ks (x ∷ xs) ≡ ks ++ filter (is_absent ks) (firsts same (x ∷ xs))
      by true e h =
          ap (λ (b : Bool). gathered same (if b then ks else ks ++ x ∷ []) xs) e
          ∙ (h ks
          ∙ (ap (λ (l : List T). ks ++ l) (sym (filter_twice (is_absent ks) (λ y. not (same x y)) (is_absent ks) (λ y. other ks x y e) (firsts same xs)))
          ∙ ap (λ (b : Bool). ks ++ cond (not b) (x ∷ rest) rest) (sym e)))
      by false e h =
          ap (λ (b : Bool). gathered same (if b then ks else ks ++ x ∷ []) xs) e
          ∙ (h (ks ++ x ∷ [])
          ∙ (append_assoc ks (x ∷ []) (filter (is_absent (ks ++ x ∷ [])) (firsts same xs))
          ∙ (ap (λ (l : List T). ks ++ x ∷ l) (sym (filter_twice (is_absent ks) (λ y. not (same x y)) (is_absent (ks ++ x ∷ [])) (beside ks x) (firsts same xs)))
          ∙ ap (λ (b : Bool). ks ++ cond (not b) (x ∷ rest) rest) (sym e))))

  pub firsts_gathered : (xs : List T) → gathered same [] xs ≡ firsts same xs
  firsts_gathered xs = gathered_firsts [] xs ∙ filter_all (firsts same xs)

-- ---- the first ones

module _ {T : Type 0} (same : T → T → Bool) where
  pub All-firsts : (P : T → Type 0) (xs : List T) → All P xs → All P (firsts same xs)
  All-firsts P [] h = h
  All-firsts P (x ∷ xs) h =
      All-cons P x (filter (λ y. not (same x y)) (firsts same xs)) (All-head P x xs h)
      (All-filter (λ y. not (same x y)) P (firsts same xs) (All-firsts P xs (All-tail P x xs h)))

  kept_apart : (b : Bool) (x : T) (xs : List T) → AllByRecursion (λ y. same x y ≡ false) xs → IsDistinct same xs → IsDistinct same (cond b (x ∷ xs) xs)
  kept_apart true x xs a d = IsDistinct-cons same x xs a d
  kept_apart false x xs a d = d

  filter_distinct : (p : T → Bool) (xs : List T) → IsDistinct same xs → IsDistinct same (filter p xs)
  filter_distinct p [] d = d
  filter_distinct p (x ∷ xs) d =
      kept_apart (p x) x (filter p xs)
      (recursion_from_All (λ y. same x y ≡ false) (filter p xs) (All-filter p (λ y. same x y ≡ false) xs (All-from_recursion (λ y. same x y ≡ false) xs (IsDistinct-head same x xs d))))
      (filter_distinct p xs (IsDistinct-tail same x xs d))

  turned_false : (b : Bool) → not b ≡ true → b ≡ false
  turned_false true e = sym e
  turned_false false e = refl

  firsts_distinct : (xs : List T) → IsDistinct same (firsts same xs)
  unfolding IsDistinct
  firsts_distinct [] = tt
  firsts_distinct (x ∷ xs) =
      IsDistinct-cons same x (filter (λ y. not (same x y)) (firsts same xs))
      (recursion_from_All (λ y. same x y ≡ false) (filter (λ y. not (same x y)) (firsts same xs))
      (All-weaker (λ y. not (same x y) ≡ true) (λ y. same x y ≡ false) (λ y e. turned_false (same x y) e) (filter (λ y. not (same x y)) (firsts same xs)) (filter_passes (λ y. not (same x y)) (firsts same xs))))
      (filter_distinct (λ y. not (same x y)) (firsts same xs) (firsts_distinct xs))

module _ {T : Type 0} (same : T → T → Bool) (decides : (x y : T) → Decides (same x y) (x ≡ y)) where
  pub firsts_apart : (xs : List T) → AllPairs (λ x y. x ≢ y) (firsts same xs)
  firsts_apart xs = AllPairs-from_IsDistinct decides (firsts same xs) (firsts_distinct same xs)

  pub firsts_have : (xs : List T) (x : T) → Contains xs x → Contains (firsts same xs) x
  firsts_have xs x h = subst (λ (ys : List T). Contains ys x) (firsts_gathered same decides xs) (All-contains (Contains (gathered same [] xs)) xs x (gathered_all same decides [] xs) h)

  pub had_first : (xs : List T) (x : T) → Contains (firsts same xs) x → Contains xs x
  had_first xs x h = All-contains (Contains xs) (firsts same xs) x (All-firsts same (Contains xs) xs (All-contains_itself xs)) h
