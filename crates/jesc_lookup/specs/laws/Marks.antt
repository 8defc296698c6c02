-- How many values of a map are marked.
use Rattle.std.proofs.Common.{◌≡◌, ℕ, zero, suc, ◌+◌, ◌^◌, ◌<◌, ◌≤◌, Bool, true, false, List, [], ◌∷◌, ◌++◌, length, get_or, take, map, Option, Some, None, refl, ap, sym, ◌∙◌, subst, arith, if◌then◌else◌}
use Rattle.std.proofs.lemmas.List.{get_or-map, get_or-take, length-map, length-take-le, take_more, map-append}
use Rattle.jesc_lookup.specs.declared.versions.Version.{Version}
use Rattle.jesc_lookup.specs.Maps.{Map, at, with_at}
use Rattle.jesc_lookup.specs.Tallies.{mark_of, marked_in}
use Rattle.jesc_lookup.specs.Tries.{IsMade}

module _ (marks : List Bool) where
  pub small_mark : (o : Option ℕ) → mark_of marks o ≤ 1
  small_mark None = omega arith
  small_mark (Some v) = by (get_or marks v false)
    where
      by : (b : Bool) → (if b then 1 else 0) ≤ 1
      by true = omega arith
      by false = omega arith

  pub is_marked : (o : Option ℕ) → 0 < mark_of marks o → (v : ℕ) × (o ≡ Some v) × (get_or marks v false ≡ true)
  is_marked None h = absurd (omega (arith, h))
  is_marked (Some v) h = (v, refl, by (get_or marks v false) h)
    where
      by : (b : Bool) → 0 < (if b then 1 else 0) → b ≡ true
      by true l = refl
      by false l = absurd (omega (arith, l))

  pub mark_there : (o : Option ℕ) (v : ℕ) → o ≡ Some v → get_or marks v false ≡ true → 0 < mark_of marks o
  mark_there o v e t = let one : mark_of marks o ≡ 1 = ap (mark_of marks) e ∙ ap (λ b. if b then 1 else 0) t in omega (arith, one)

  pub few_marked : (m : Map) → marked_in marks m ≤ length m
  few_marked [] = omega arith
  few_marked (x ∷ xs) = omega (arith, small_mark x, few_marked xs)

  pub none_marked : (m : Map) → ((key : ℕ) → at m key ≡ None) → marked_in marks m ≡ 0
  none_marked [] h = refl
  none_marked (x ∷ xs) h = ap (λ o. mark_of marks o + marked_in marks xs) (h 0) ∙ nought (marked_in marks xs) (none_marked xs (λ key. h (suc key)))
    where
      nought : (n : ℕ) → n ≡ 0 → 0 + n ≡ 0
      nought n e = omega (arith, e)

  pub mark_counts : (m : Map) (key : ℕ) → 0 < mark_of marks (at m key) → 0 < marked_in marks m
  mark_counts [] key h = absurd (omega (arith, h))
  mark_counts (x ∷ xs) zero h = more (mark_of marks x) (marked_in marks xs) h
    where
      more : (a b : ℕ) → 0 < a → 0 < a + b
      more a b l = omega (arith, l)
  mark_counts (x ∷ xs) (suc key) h = more (mark_of marks x) (marked_in marks xs) (mark_counts xs key h)
    where
      more : (a b : ℕ) → 0 < b → 0 < a + b
      more a b l = omega (arith, l)

  pub some_marked : (m : Map) → 0 < marked_in marks m → (key : ℕ) × (0 < mark_of marks (at m key))
  some_marked [] h = absurd (omega (arith, h))
  some_marked (x ∷ xs) h = by (mark_of marks x) refl (λ l. some_marked xs l)
    where
      rest : (a b : ℕ) → 0 < a + b → a ≡ 0 → 0 < b
      rest a b l e = omega (arith, l, e)

      by : (n : ℕ) → mark_of marks x ≡ n → (0 < marked_in marks xs → (key : ℕ) × (0 < mark_of marks (at xs key))) → (key : ℕ) × (0 < mark_of marks (at (x ∷ xs) key))
      by zero e more = let r = more (rest (mark_of marks x) (marked_in marks xs) h e) in (suc r.0, r.1)
      by (suc n) e more = (0, subst (λ k. 0 < k) (sym e) (omega arith))

  -- another value at a key
  pub marked_with : (m : Map) (key value : ℕ) → key < length m → marked_in marks (with_at m key value) + mark_of marks (at m key) ≡ marked_in marks m + mark_of marks (Some value)
  marked_with [] key value l = absurd (omega (arith, l))
  marked_with (x ∷ xs) zero value l = swapped (mark_of marks (Some value)) (marked_in marks xs) (mark_of marks x)
    where
      swapped : (a b c : ℕ) → (a + b) + c ≡ (c + b) + a
      swapped a b c = omega arith
  marked_with (x ∷ xs) (suc key) value l =
      shifted (mark_of marks x) (marked_in marks (with_at xs key value)) (mark_of marks (at xs key)) (marked_in marks xs) (mark_of marks (Some value)) (marked_with xs key value (omega (arith, l)))
    where
      shifted : (x a b c d : ℕ) → a + b ≡ c + d → (x + a) + b ≡ (x + c) + d
      shifted x a b c d e = omega (arith, e)

  -- ---- the counts of all versions

  module _ (maps : List Map) (counts : List ℕ) (version : ℕ) (inside : version < length maps) (are : counts ≡ map (marked_in marks) (take version maps)) where
    pub counts_long : length counts ≡ version
    counts_long = ap length are ∙ length-map (take version maps) (marked_in marks) ∙ length-take-le version maps (omega (arith, inside))

    pub count_at : (v : ℕ) → v < version → get_or counts v 0 ≡ marked_in marks (get_or maps v [])
    count_at v l =
        ap (λ xs. get_or xs v 0) are ∙ get_or-map (marked_in marks) (take version maps) v [] 0 (omega (arith, l, counts_long, ap length are, length-map (take version maps) (marked_in marks)))
        ∙ ap (marked_in marks) (get_or-take version maps v [] l)

    module _ (v : Version) (made : IsMade maps version v) (old new : ℕ) (is_old : old ≡ mark_of marks (at (get_or maps v.from []) v.key)) (is_new : new ≡ mark_of marks (Some v.value)) where
      pub sum_is : marked_in marks (get_or maps version []) + old ≡ get_or counts v.from 0 + new
      sum_is =
          ap (λ m. marked_in marks m + old) made.map ∙ ap (λ n. marked_in marks (with_at (get_or maps v.from []) v.key v.value) + n) is_old
          ∙ marked_with (get_or maps v.from []) v.key v.value made.inside
          ∙ ap (λ n. n + mark_of marks (Some v.value)) (sym (count_at v.from made.older)) ∙ ap (λ n. get_or counts v.from 0 + n) (sym is_new)

      pub sum_fits : length (get_or maps v.from []) ≤ 2 ^ 32 → get_or counts v.from 0 + new ≤ 2 ^ 32 + 1
      sum_fits small = omega (arith, count_at v.from made.older, few_marked (get_or maps v.from []), small, is_new, small_mark (Some v.value))

  pub count_more : (maps : List Map) (counts more : List ℕ) (version count : ℕ) → version < length maps → counts ≡ map (marked_in marks) (take version maps) → count ≡ marked_in marks (get_or maps version [])
      → more ≡ counts ++ count ∷ [] → more ≡ map (marked_in marks) (take (version + 1) maps)
  count_more maps counts more version count inside are is grows =
      grows ∙ ap (λ xs. xs ++ count ∷ []) are ∙ ap (λ n. map (marked_in marks) (take version maps) ++ n ∷ []) is
      ∙ sym (map-append (marked_in marks) (take version maps) (get_or maps version [] ∷ [])) ∙ ap (map (marked_in marks)) (sym (take_more maps version [] inside))
