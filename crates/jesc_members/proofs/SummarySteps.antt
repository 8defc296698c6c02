-- How methods are added to what is known, one by one.
use Rattle.std.proofs.Common.{◌≡◌, ◌↔◌, inl, inr, ℕ, zero, suc, ◌+◌, ◌<◌, ◌≤◌, Bool, true, false, ◌||◌, ◌&&◌, List, [], ◌∷◌, ◌++◌, length, get_or, take, Option, Some, None, IfSome, refl, ap, sym, ◌∙◌, subst, arith, nat_eq, nat_lt, ltb-true, ltb-false, slice_get, append_assoc, append-nil, true≢false, if◌then◌else◌}
use Rattle.std.specs.List.{All, Contains}
use Rattle.std.proofs.lemmas.List.{get_or_append_left, get_or_push, length_push, get_or_past, take_more}
use Rattle.std.proofs.lemmas.List.Elements.{All-push, All-nil, All-append, All-contains, Contains-append_left, Contains-append_right, Contains-append_cases}
use Rattle.std.proofs.lemmas.Bool.{eq-eqb}
use Rattle.std.proofs.lemmas.Bool.Decides.{eqb_tells}
use Rattle.jesc_classes.specs.laws.Orders.{here, later, first_or_later, nothing}
use Rattle.jesc_members.specs.declared.summary.Summary.{Summary}
use Rattle.jesc_members.specs.declared.summary_layers.Above.{Above}
use Rattle.jesc_lookup.specs.Layers.{AreItems, AreSized}
use Rattle.jesc_lookup.specs.Maps.{Map, at, with_at}
use Rattle.jesc_members.specs.Methods.{MethodOf, is_hidden}
use Rattle.jesc_members.specs.Summaries.{AreMany, AreMixed, IsOneSuch, IsSummary, IsSummaryOf}
use Rattle.jesc_members.specs.SummaryLayers.{has_differing, has_hidden, summary_at, summary_of}
use Rattle.jesc_members.specs.SummaryKnown.{Adds, Grows, IsHeld, IsKnown, IsStore, items_of, keyed}
use Rattle.jesc_lookup.specs.laws.Lines.{both_ways}
use Rattle.jesc_lookup.specs.laws.Steps.{at_other, at_same, length-with_at, same_or_not}

-- ---- items of a key

pub keyed_append : (keys : List ℕ) (key : ℕ) (xs ys : List ℕ) → keyed keys key (xs ++ ys) ≡ keyed keys key xs ++ keyed keys key ys
keyed_append keys key [] ys = refl
keyed_append keys key (x ∷ xs) ys = by (nat_eq key (get_or keys x 0)) (keyed_append keys key xs ys)
  where
    by : (b : Bool) → keyed keys key (xs ++ ys) ≡ keyed keys key xs ++ keyed keys key ys → (if b then x ∷ keyed keys key (xs ++ ys) else keyed keys key (xs ++ ys)) ≡ (if b then x ∷ keyed keys key xs else keyed keys key xs) ++ keyed keys key ys
    by true h = ap (λ l. x ∷ l) h
    by false h = h

module _ (keys : List ℕ) (x : ℕ) where
  pub keyed_here : keyed keys (get_or keys x 0) (x ∷ []) ≡ x ∷ []
  keyed_here = ap (λ b. if b then x ∷ [] else []) (eq-eqb (get_or keys x 0) (get_or keys x 0) refl)

  pub keyed_other : (k : ℕ) → (k ≡ get_or keys x 0 → ⊥) → keyed keys k (x ∷ []) ≡ []
  keyed_other k n = elim (eqb_tells k (get_or keys x 0)) [
    | inl t ↦ absurd (n t.1)
    | inr f ↦ ap (λ b. if b then x ∷ [] else []) f.0
  ]

pub keyed_in : (keys : List ℕ) (key i : ℕ) (xs : List ℕ) → Contains (keyed keys key xs) i → Contains xs i × (get_or keys i 0 ≡ key)
keyed_in keys key i [] c = absurd (nothing i c)
keyed_in keys key i (x ∷ xs) c = elim (eqb_tells key (get_or keys x 0)) [
  | inl t ↦ elim (first_or_later x (keyed keys key xs) i (subst (λ b. Contains (if b then x ∷ keyed keys key xs else keyed keys key xs) i) t.0 c)) [
    | inl e ↦ (subst (Contains (x ∷ xs)) e (here x xs), ap (λ j. get_or keys j 0) (sym e) ∙ sym t.1)
    | inr m ↦ let r = keyed_in keys key i xs m in (later x xs i r.0, r.1)
  ]
  | inr f ↦ let r = keyed_in keys key i xs (subst (λ b. Contains (if b then x ∷ keyed keys key xs else keyed keys key xs) i) f.0 c) in (later x xs i r.0, r.1)
]

pub in_keyed : (keys : List ℕ) (key i : ℕ) (xs : List ℕ) → Contains xs i → get_or keys i 0 ≡ key → Contains (keyed keys key xs) i
in_keyed keys key i [] c e = absurd (nothing i c)
in_keyed keys key i (x ∷ xs) c e = elim (first_or_later x xs i c) [
  | inl s ↦ subst (λ b. Contains (if b then x ∷ keyed keys key xs else keyed keys key xs) i) (sym (eq-eqb key (get_or keys x 0) (sym e ∙ ap (λ j. get_or keys j 0) (sym s)))) (subst (Contains (x ∷ keyed keys key xs)) s (here x (keyed keys key xs)))
  | inr m ↦ more (nat_eq key (get_or keys x 0)) (in_keyed keys key i xs m e)
]
  where
    more : (b : Bool) → Contains (keyed keys key xs) i → Contains (if b then x ∷ keyed keys key xs else keyed keys key xs) i
    more true h = later x (keyed keys key xs) i h
    more false h = h

-- ---- items of classes

pub items_append : (rows : List (List ℕ)) (xs ys : List ℕ) → items_of rows (xs ++ ys) ≡ items_of rows xs ++ items_of rows ys
items_append rows [] ys = refl
items_append rows (c ∷ xs) ys = ap (λ l. get_or rows c [] ++ l) (items_append rows xs ys) ∙ sym (append_assoc (get_or rows c []) (items_of rows xs) (items_of rows ys))

pub items_more : (rows : List (List ℕ)) (classes : List ℕ) (i : ℕ) → i < length classes → items_of rows (take i classes) ++ get_or rows (get_or classes i 0) [] ≡ items_of rows (take (i + 1) classes)
items_more rows classes i l =
    sym (ap (items_of rows) (take_more classes i 0 l) ∙ items_append rows (take i classes) (get_or classes i 0 ∷ [])
    ∙ ap (λ xs. items_of rows (take i classes) ++ xs) (append-nil (get_or rows (get_or classes i 0) [])))

pub of_items : (rows : List (List ℕ)) (classes : List ℕ) (i : ℕ) → Contains (items_of rows classes) i → (c : ℕ) × Contains classes c × Contains (get_or rows c []) i
of_items rows [] i h = absurd (nothing i h)
of_items rows (c ∷ cs) i h = elim (Contains-append_cases (get_or rows c []) (items_of rows cs) i h) [
  | inl m ↦ (c, here c cs, m)
  | inr m ↦ let r = of_items rows cs i m in (r.0, later c cs r.0 r.1, r.2)
]

pub in_items : (rows : List (List ℕ)) (classes : List ℕ) (c i : ℕ) → Contains classes c → Contains (get_or rows c []) i → Contains (items_of rows classes) i
in_items rows [] c i h m = absurd (nothing c h)
in_items rows (d ∷ cs) c i h m = elim (first_or_later d cs c h) [
  | inl e ↦ Contains-append_left (get_or rows d []) (items_of rows cs) i (subst (λ x. Contains (get_or rows x []) i) (sym e) m)
  | inr k ↦ Contains-append_right (get_or rows d []) (items_of rows cs) i (in_items rows cs c i k m)
]

module _ (n : ℕ) (keys : List ℕ) (rows : List (List ℕ)) (are : AreItems n keys rows) where
  pub row_small : (c : ℕ) → All (λ i. i < length keys) (get_or rows c [])
  row_small c = by (nat_lt c (length rows)) refl
    where
      by : (t : Bool) → nat_lt c (length rows) ≡ t → All (λ i. i < length keys) (get_or rows c [])
      by true e = are.each c [] (ltb-true c (length rows) e)
      by false e = subst (λ xs. All (λ i. i < length keys) xs) (sym (get_or_past rows c [] (ltb-false c (length rows) e))) (All-nil (λ i. i < length keys))

  pub items_small : (classes : List ℕ) → All (λ i. i < length keys) (items_of rows classes)
  items_small [] = All-nil (λ i. i < length keys)
  items_small (c ∷ cs) = All-append (λ i. i < length keys) (get_or rows c []) (items_of rows cs) (row_small c) (items_small cs)

-- ---- lists of summaries

last_there : {X : Type 0} (xs : List X) (x : X) → slice_get (xs ++ x ∷ []) (length xs) ≡ Some x
last_there [] x = refl
last_there (y ∷ ys) x = last_there ys x

front_there : {X : Type 0} (xs ys : List X) (p : ℕ) → p < length xs → slice_get (xs ++ ys) p ≡ slice_get xs p
front_there [] ys p l = absurd (omega (arith, l))
front_there (x ∷ xs) ys zero l = refl
front_there (x ∷ xs) ys (suc p) l = front_there xs ys p (omega (arith, l))

abbrev value_in : Option ℕ → ℕ
value_in None = 0
value_in (Some x) = x

-- ---- summaries of more

module _ (methods : List MethodOf) (of more : List ℕ) where
  many_more : AreMany methods of → AreMany methods (of ++ more)
  many_more (i, j, a, b, ci, cj, mi, mj, n) = (i, j, a, b, Contains-append_left of more i ci, Contains-append_left of more j cj, mi, mj, n)

  mixed_more : AreMixed methods of → AreMixed methods (of ++ more)
  mixed_more (i, j, a, b, ci, cj, mi, mj, n) = (i, j, a, b, Contains-append_left of more i ci, Contains-append_left of more j cj, mi, mj, n)

  such_more : (P : MethodOf → Type 0) → IsOneSuch methods P of → IsOneSuch methods P (of ++ more)
  such_more P (i, a, ci, mi, p) = (i, a, Contains-append_left of more i ci, mi, p)

  pub differing_more : (o : Option Summary) (new : Summary) → IsSummaryOf methods of o → IsSummary methods (of ++ more) new → has_differing o → has_differing (Some new)
  differing_more None new s t h = absurd h
  differing_more (Some old) new s t h = (t.many.1 (many_more (s.many.0 h.0)), t.mixed.1 (mixed_more (s.mixed.0 h.1)))

  pub hidden_more : (o : Option Summary) (new : Summary) → IsSummaryOf methods of o → IsSummary methods (of ++ more) new → has_hidden o → has_hidden (Some new)
  hidden_more None new s t h = absurd h
  hidden_more (Some old) new s t h = (t.many.1 (many_more (s.many.0 h.0)), t.hides.1 (such_more (λ a. is_hidden a.tree ≡ true) (s.hides.0 h.1)))

both_hold : (b c : Bool) → (b && c) ≡ true → (b ≡ true) × (c ≡ true)
both_hold true true e = (refl, refl)
both_hold true false e = absurd (true≢false (sym e))
both_hold false c e = absurd (true≢false (sym e))

with_both : (a b c : Bool) → (b ≡ true) × (c ≡ true) → (a || (b && c)) ≡ true
with_both true b c p = refl
with_both false true true p = refl
with_both false true false p = absurd (true≢false (sym p.1))
with_both false false c p = absurd (true≢false (sym p.0))

-- whether some key has such a summary, after the summary of one key is changed
module _ (Has : Option Summary → Type 0) (before after : ℕ → Option Summary) (key : ℕ) (new : Summary) (old_flag new_flag second third : Bool)
    (is : new_flag ≡ (old_flag || (second && third)))
    (to_new : (second ≡ true) × (third ≡ true) → Has (Some new)) (of_new : Has (Some new) → (second ≡ true) × (third ≡ true))
    (changed : after key ≡ Some new) (other : (k : ℕ) → (k ≡ key → ⊥) → after k ≡ before k)
    (grow : Has (before key) → Has (Some new)) (known : (old_flag ≡ true) ↔ ((k : ℕ) × Has (before k))) where
  raised : new_flag ≡ true → (k : ℕ) × Has (after k)
  raised e = elim (both_ways old_flag) [
    | inl t ↦ let p = known.0 t in elim (same_or_not p.0 key) [
      | inl s ↦ (key, subst Has (sym changed) (grow (subst (λ k. Has (before k)) s p.1)))
      | inr n ↦ (p.0, subst Has (sym (other p.0 n)) p.1)
    ]
    | inr f ↦ (key, subst Has (sym changed) (to_new (both_hold second third (subst (λ b. (b || (second && third)) ≡ true) f (sym is ∙ e)))))
  ]

  raises : (k : ℕ) × Has (after k) → new_flag ≡ true
  raises p = elim (same_or_not p.0 key) [
    | inl s ↦ is ∙ with_both old_flag second third (of_new (subst Has changed (subst (λ k. Has (after k)) s p.1)))
    | inr n ↦ is ∙ ap (λ b. b || (second && third)) (known.1 (p.0, subst Has (other p.0 n) p.1))
  ]

  pub flag_grows : (new_flag ≡ true) ↔ ((k : ℕ) × Has (after k))
  flag_grows = (raised, raises)

-- ---- what is known

module _ (methods : List MethodOf) (keys : List ℕ) where
  places_kept : (ov : List Map) (os : List Summary) (nv : List Map) (ns : List Summary) → Grows (length keys) ov os nv ns → IsStore (length keys) ov os → (v : ℕ) → v < length ov → (key : ℕ)
      → summary_of ns (at (get_or ov v []) key) ≡ summary_of os (at (get_or ov v []) key)
  places_kept ov os nv ns g store v there key = by (at (get_or ov v []) key) refl
    where
      by : (o : Option ℕ) → at (get_or ov v []) key ≡ o → summary_of ns o ≡ summary_of os o
      by None e = refl
      by (Some p) e = g.kept p (store.inside v key p there e)

  summary_kept : (ov : List Map) (os : List Summary) (nv : List Map) (ns : List Summary) (a : Above) → Grows (length keys) ov os nv ns → IsStore (length keys) ov os → a.version < length ov → (key : ℕ)
      → summary_at nv ns a key ≡ summary_at ov os a key
  summary_kept ov os nv ns a g store there key = ap (λ m. summary_of ns (at m key)) (g.same a.version there) ∙ places_kept ov os nv ns g store a.version there key

  pub known_kept : (ov : List Map) (os : List Summary) (nv : List Map) (ns : List Summary) (items : List ℕ) (a : Above) → Grows (length keys) ov os nv ns → IsStore (length keys) ov os
      → IsKnown methods keys ov os items a → IsKnown methods keys nv ns items a
  known_kept ov os nv ns items a g store k = record {
    there = omega (arith, k.there, g.more);
    each = λ key. subst (IsSummaryOf methods (keyed keys key items)) (sym (same key)) (k.each key);
    differs = (λ e. let p = k.differs.0 e in (p.0, subst has_differing (sym (same p.0)) p.1), λ p. k.differs.1 (p.0, subst has_differing (same p.0) p.1));
    hides = (λ e. let p = k.hides.0 e in (p.0, subst has_hidden (sym (same p.0)) p.1), λ p. k.hides.1 (p.0, subst has_hidden (same p.0) p.1));
  }
    where
      same : (key : ℕ) → summary_at nv ns a key ≡ summary_at ov os a key
      same key = summary_kept ov os nv ns a g store k.there key

  pub held_kept : (ov : List Map) (os : List Summary) (nv : List Map) (ns : List Summary) (a : Above) → Grows (length keys) ov os nv ns → IsStore (length keys) ov os
      → IsHeld methods keys ov os a → IsHeld methods keys nv ns a
  held_kept ov os nv ns a g store h = record { items = h.items; small = h.small; known = known_kept ov os nv ns h.items a g store h.known }

  pub sample_small : (versions : List Map) (summaries : List Summary) (a : Above) → IsHeld methods keys versions summaries a → (key : ℕ) → IfSome (summary_at versions summaries a key) (λ s. s.sample < length keys)
  sample_small versions summaries a h key = by (summary_at versions summaries a key) (h.known.each key)
    where
      by : (o : Option Summary) → IsSummaryOf methods (keyed keys key h.items) o → IfSome o (λ s. s.sample < length keys)
      by None s = tt
      by (Some summary) s = All-contains (λ i. i < length keys) h.items summary.sample h.small (keyed_in keys key summary.sample h.items s.sample).0

  grows_both : (ov : List Map) (os : List Summary) (mv : List Map) (ms : List Summary) (nv : List Map) (ns : List Summary) → Grows (length keys) ov os mv ms → Grows (length keys) mv ms nv ns → Grows (length keys) ov os nv ns
  grows_both ov os mv ms nv ns s t = record {
    store = t.store;
    more = omega (arith, s.more, t.more);
    same = λ v l. t.same v (omega (arith, l, s.more)) ∙ s.same v l;
    longer = omega (arith, s.longer, t.longer);
    kept = λ p l. t.kept p (omega (arith, l, s.longer)) ∙ s.kept p l;
  }

  pub adds_both : (ov : List Map) (os : List Summary) (oa : Above) (mv : List Map) (ms : List Summary) (ma : Above) (nv : List Map) (ns : List Summary) (na : Above) (xs ys : List ℕ)
      → Adds methods keys ov os oa mv ms ma xs → Adds methods keys mv ms ma nv ns na ys → Adds methods keys ov os oa nv ns na (xs ++ ys)
  adds_both ov os oa mv ms ma nv ns na xs ys s t = record {
    grows = grows_both ov os mv ms nv ns s.grows t.grows;
    known = λ items k. subst (λ l. IsKnown methods keys nv ns l na) (append_assoc items xs ys) (t.known (items ++ xs) (s.known items k));
  }

  pub adds_none : (ov : List Map) (os : List Summary) (a : Above) → IsStore (length keys) ov os → Adds methods keys ov os a ov os a []
  adds_none ov os a store = record {
    grows = record { store = store; more = omega arith; same = λ v l. refl; longer = omega arith; kept = λ p l. refl };
    known = λ items k. subst (λ l. IsKnown methods keys ov os l a) (sym (append-nil items)) k;
  }

  -- what was added stays where versions and summaries grow
  pub adds_kept : (ov : List Map) (os : List Summary) (oa : Above) (mv : List Map) (ms : List Summary) (ma : Above) (nv : List Map) (ns : List Summary) (xs : List ℕ)
      → Adds methods keys ov os oa mv ms ma xs → Grows (length keys) mv ms nv ns → Adds methods keys ov os oa nv ns ma xs
  adds_kept ov os oa mv ms ma nv ns xs s g = record {
    grows = grows_both ov os mv ms nv ns s.grows g;
    known = λ items k. known_kept mv ms nv ns (items ++ xs) ma g s.grows.store (s.known items k);
  }

  pub held_after : (ov : List Map) (os : List Summary) (oa : Above) (nv : List Map) (ns : List Summary) (na : Above) (xs : List ℕ)
      → Adds methods keys ov os oa nv ns na xs → All (λ i. i < length keys) xs → IsHeld methods keys ov os oa → IsHeld methods keys nv ns na
  held_after ov os oa nv ns na xs s small h = record {
    items = h.items ++ xs;
    small = All-append (λ i. i < length keys) h.items xs h.small small;
    known = s.known h.items h.known;
  }

  -- ---- one more method

  module _ (ov : List Map) (os : List Summary) (a : Above) (item : ℕ) (new : Summary) (to : ℕ) (nv : List Map) (ns : List Summary) (store : IsStore (length keys) ov os) (there : a.version < length ov) (small : get_or keys item 0 < length keys)
      (pushed : ns ≡ os ++ new ∷ []) (made : nv ≡ ov ++ with_at (get_or ov a.version []) (get_or keys item 0) (length os) ∷ []) (number : to ≡ length ov) where
    abbrev mapped : Map
    mapped = with_at (get_or ov a.version []) (get_or keys item 0) (length os)

    wide : length keys ≤ length (get_or ov a.version [])
    wide = store.sized a.version [] there

    long : length nv ≡ length ov + 1
    long = ap length made ∙ length_push ov mapped

    longer : length ns ≡ length os + 1
    longer = ap length pushed ∙ length_push os new

    read : (v : ℕ) → v ≡ length ov → get_or nv v [] ≡ mapped
    read v e = ap (λ vs. get_or vs v []) made ∙ get_or_push ov mapped [] v (sym e)

    unchanged : (v : ℕ) → v < length ov → get_or nv v [] ≡ get_or ov v []
    unchanged v l = ap (λ vs. get_or vs v []) made ∙ get_or_append_left ov (mapped ∷ []) [] v l

    mapped_inside : (k p : ℕ) → at mapped k ≡ Some p → p < length ns
    mapped_inside k p e = elim (same_or_not k (get_or keys item 0)) [
      | inl s ↦
          let got : length os ≡ p = ap value_in (sym (ap (λ x. at mapped x) s ∙ at_same (get_or ov a.version []) (get_or keys item 0) (length os) (omega (arith, small, wide))) ∙ e) in
          omega (arith, got, longer)
      | inr n ↦
          let l = store.inside a.version k p there (sym (at_other (get_or ov a.version []) (get_or keys item 0) (length os) k n) ∙ e) in
          omega (arith, l, longer)
    ]

    all_inside : (v k p : ℕ) → v < length nv → at (get_or nv v []) k ≡ Some p → p < length ns
    all_inside v k p l e = by (nat_lt v (length ov)) refl
      where
        by : (t : Bool) → nat_lt v (length ov) ≡ t → p < length ns
        by true q =
            let before = ltb-true v (length ov) q in
            let inside = store.inside v k p before (sym (ap (λ m. at m k) (unchanged v before)) ∙ e) in
            omega (arith, inside, longer)
        by false q =
            let behind = ltb-false v (length ov) q in
            mapped_inside k p (sym (ap (λ m. at m k) (read v (omega (arith, behind, l, long)))) ∙ e)

    grown : Grows (length keys) ov os nv ns
    grown = record {
      store = record {
        sized = subst (λ vs. AreSized (length keys) vs) (sym made) (All-push (λ m. length keys ≤ length m) ov mapped store.sized (omega (arith, wide, length-with_at (get_or ov a.version []) (get_or keys item 0) (length os))));
        inside = all_inside;
      };
      more = omega (arith, long);
      same = unchanged;
      longer = omega (arith, longer);
      kept = λ p l. ap (λ xs. slice_get xs p) pushed ∙ front_there os (new ∷ []) p l;
    }

    changed : summary_of ns (at (get_or nv to []) (get_or keys item 0)) ≡ Some new
    changed =
        ap (λ m. summary_of ns (at m (get_or keys item 0))) (read to number) ∙ ap (summary_of ns) (at_same (get_or ov a.version []) (get_or keys item 0) (length os) (omega (arith, small, wide)))
        ∙ ap (λ xs. slice_get xs (length os)) pushed ∙ last_there os new

    other : (k : ℕ) → (k ≡ (get_or keys item 0) → ⊥) → summary_of ns (at (get_or nv to []) k) ≡ summary_at ov os a k
    other k n =
        ap (λ m. summary_of ns (at m k)) (read to number) ∙ ap (summary_of ns) (at_other (get_or ov a.version []) (get_or keys item 0) (length os) k n)
        ∙ places_kept ov os nv ns grown store a.version there k

    module _ (d h : Bool) (differs : d ≡ (a.differs || (new.many && new.mixed))) (hides : h ≡ (a.hides || (new.many && new.hides)))
        (sums : (of : List ℕ) → IsSummaryOf methods of (summary_at ov os a (get_or keys item 0)) → IsSummary methods (of ++ item ∷ []) new) where
      at_key : (items : List ℕ) → IsKnown methods keys ov os items a → IsSummaryOf methods (keyed keys (get_or keys item 0) (items ++ item ∷ [])) (summary_of ns (at (get_or nv to []) (get_or keys item 0)))
      at_key items k =
          subst (IsSummaryOf methods (keyed keys (get_or keys item 0) (items ++ item ∷ []))) (sym changed)
          (subst (λ l. IsSummary methods l new) (sym (keyed_append keys (get_or keys item 0) items (item ∷ []) ∙ ap (λ l. keyed keys (get_or keys item 0) items ++ l) (keyed_here keys item))) (sums (keyed keys (get_or keys item 0) items) (k.each (get_or keys item 0))))

      at_others : (items : List ℕ) → IsKnown methods keys ov os items a → (key : ℕ) → (key ≡ (get_or keys item 0) → ⊥) → IsSummaryOf methods (keyed keys key (items ++ item ∷ [])) (summary_of ns (at (get_or nv to []) key))
      at_others items k key n =
          subst (IsSummaryOf methods (keyed keys key (items ++ item ∷ []))) (sym (other key n))
          (subst (λ l. IsSummaryOf methods l (summary_at ov os a key)) (sym (keyed_append keys key items (item ∷ []) ∙ ap (λ l. keyed keys key items ++ l) (keyed_other keys item key n) ∙ append-nil (keyed keys key items))) (k.each key))

      known_more : (items : List ℕ) → IsKnown methods keys ov os items a → IsKnown methods keys nv ns (items ++ item ∷ []) (record { version = to; differs = d; hides = h })
      known_more items k = record {
        there = omega (arith, long, number);
        each = λ key. elim (same_or_not key (get_or keys item 0)) [
          | inl e ↦ subst (λ x. IsSummaryOf methods (keyed keys x (items ++ item ∷ [])) (summary_of ns (at (get_or nv to []) x))) (sym e) (at_key items k)
          | inr n ↦ at_others items k key n
        ];
        differs = flag_grows has_differing (summary_at ov os a) (λ x. summary_of ns (at (get_or nv to []) x)) (get_or keys item 0) new a.differs d new.many new.mixed differs (λ p. p) (λ p. p) changed other
            (differing_more methods (keyed keys (get_or keys item 0) items) (item ∷ []) (summary_at ov os a (get_or keys item 0)) new (k.each (get_or keys item 0)) (sums (keyed keys (get_or keys item 0) items) (k.each (get_or keys item 0)))) k.differs;
        hides = flag_grows has_hidden (summary_at ov os a) (λ x. summary_of ns (at (get_or nv to []) x)) (get_or keys item 0) new a.hides h new.many new.hides hides (λ p. p) (λ p. p) changed other
            (hidden_more methods (keyed keys (get_or keys item 0) items) (item ∷ []) (summary_at ov os a (get_or keys item 0)) new (k.each (get_or keys item 0)) (sums (keyed keys (get_or keys item 0) items) (k.each (get_or keys item 0)))) k.hides;
      }

      pub one_added : Adds methods keys ov os a nv ns (record { version = to; differs = d; hides = h }) (item ∷ [])
      one_added = record { grows = grown; known = known_more }
