-- How versions of layers are made one after the other.
use Rattle.std.proofs.Common.{◌≡◌, ◌⊎◌, inl, inr, ℕ, zero, suc, ◌+◌, ◌<◌, ◌≤◌, Bool, true, false, List, [], ◌∷◌, ◌++◌, length, get_or, take, drop, Option, Some, None, refl, ap, sym, ◌∙◌, subst, arith, nat_eq, Result, Ok, Err, if◌then◌else◌}
use Rattle.std.specs.Prelude.{OnOk, IfOk}
use Rattle.std.proofs.lemmas.List.{get_or_append_left, get_or_push, length_push, take_more, drop_more}
use Rattle.std.proofs.lemmas.List.Elements.{All-push}
use Rattle.std.proofs.lemmas.Bool.{eq-eqb}
use Rattle.std.proofs.lemmas.Bool.Decides.{eqb_tells}
use Rattle.jesc_lookup.specs.Maps.{Map, at, with_at}
use Rattle.jesc_lookup.specs.Lines.{first_in, or_else}
use Rattle.jesc_lookup.specs.Layers.{AreSized, Steps, first_keyed, own_keyed}

pub length-with_at : (m : Map) (key value : ℕ) → length (with_at m key value) ≡ length m
length-with_at [] key value = refl
length-with_at (x ∷ xs) zero value = refl
length-with_at (x ∷ xs) (suc key) value = ap suc (length-with_at xs key value)

pub at_same : (m : Map) (key value : ℕ) → key < length m → at (with_at m key value) key ≡ Some value
at_same [] key value l = absurd (omega (arith, l))
at_same (x ∷ xs) zero value l = refl
at_same (x ∷ xs) (suc key) value l = at_same xs key value (omega (arith, l))

pub at_other : (m : Map) (key value k : ℕ) → (k ≡ key → ⊥) → at (with_at m key value) k ≡ at m k
at_other [] key value k n = refl
at_other (x ∷ xs) zero value zero n = absurd (n refl)
at_other (x ∷ xs) zero value (suc k) n = refl
at_other (x ∷ xs) (suc key) value zero n = refl
at_other (x ∷ xs) (suc key) value (suc k) n = at_other xs key value k (λ e. n (ap suc e))

pub same_or_not : (k key : ℕ) → (k ≡ key) ⊎ (k ≡ key → ⊥)
same_or_not k key = elim (eqb_tells k key) [ inl t ↦ inl t.1 | inr f ↦ inr f.1 ]

module _ (size : ℕ) (old : List Map) (from : ℕ) where
  pub no_step : (f : ℕ → Option ℕ → Option ℕ) → AreSized size old → from < length old → ((key : ℕ) (o : Option ℕ) → f key o ≡ o) → Steps size old from old from f
  no_step f sized there same = record {
    sized = sized;
    more = omega arith;
    same = λ v l. refl;
    there = there;
    each = λ key. sym (same key (at (get_or old from []) key));
  }

  -- the same change, written in another way
  pub renamed : (new : List Map) (to : ℕ) (f g : ℕ → Option ℕ → Option ℕ) → ((key : ℕ) → f key (at (get_or old from []) key) ≡ g key (at (get_or old from []) key)) → Steps size old from new to f → Steps size old from new to g
  renamed new to f g same s = record {
    sized = s.sized;
    more = s.more;
    same = s.same;
    there = s.there;
    each = λ key. s.each key ∙ same key;
  }

  pub both_steps : (mid : List Map) (middle : ℕ) (new : List Map) (to : ℕ) (f g : ℕ → Option ℕ → Option ℕ) → Steps size old from mid middle f → Steps size mid middle new to g → Steps size old from new to (λ key o. g key (f key o))
  both_steps mid middle new to f g s t = record {
    sized = t.sized;
    more = omega (arith, s.more, t.more);
    same = λ v l. t.same v (omega (arith, l, s.more)) ∙ s.same v l;
    there = t.there;
    each = λ key. t.each key ∙ ap (g key) (s.each key);
  }

  -- a value is put at a key
  pub put_step : (key value : ℕ) (new : List Map) (to : ℕ) (g : ℕ → Option ℕ → Option ℕ) → AreSized size old → from < length old → key < size
      → new ≡ old ++ with_at (get_or old from []) key value ∷ [] → to ≡ length old
      → g key (at (get_or old from []) key) ≡ Some value → ((k : ℕ) → (k ≡ key → ⊥) → g k (at (get_or old from []) k) ≡ at (get_or old from []) k)
      → Steps size old from new to g
  put_step key value new to g sized there small is number here other = record {
    sized = subst (λ vs. AreSized size vs) (sym is) (All-push (λ m. size ≤ length m) old made sized (omega (arith, wide, length-with_at (get_or old from []) key value)));
    more = omega (arith, long);
    same = λ v l. ap (λ vs. get_or vs v []) is ∙ get_or_append_left old (made ∷ []) [] v l;
    there = omega (arith, long, number);
    each = λ k. ap (λ m. at m k) read ∙ by k (same_or_not k key);
  }
    where
      made : Map
      made = with_at (get_or old from []) key value

      wide : size ≤ length (get_or old from [])
      wide = sized from [] there

      long : length new ≡ length old + 1
      long = ap length is ∙ length_push old made

      read : get_or new to [] ≡ made
      read = ap (λ vs. get_or vs to []) is ∙ get_or_push old made [] to (sym number)

      by : (k : ℕ) → (k ≡ key) ⊎ (k ≡ key → ⊥) → at made k ≡ g k (at (get_or old from []) k)
      by k (inl e) = ap (λ x. at made x) e ∙ at_same (get_or old from []) key value (omega (arith, small, wide)) ∙ sym here ∙ ap (λ x. g x (at (get_or old from []) x)) (sym e)
      by k (inr n) = at_other (get_or old from []) key value k n ∙ sym (other k n)

-- ---- what the changes are

pub or_none : (o : Option ℕ) → or_else o None ≡ o
or_none None = refl
or_none (Some x) = refl

pub or_assoc : (a b c : Option ℕ) → or_else (or_else a b) c ≡ or_else a (or_else b c)
or_assoc None b c = refl
or_assoc (Some x) b c = refl

pub keyed_push : (keys : List ℕ) (key : ℕ) (xs : List ℕ) (x : ℕ) → first_keyed keys key (xs ++ x ∷ []) ≡ or_else (first_keyed keys key xs) (first_keyed keys key (x ∷ []))
keyed_push keys key [] x = refl
keyed_push keys key (y ∷ xs) x = by (nat_eq key (get_or keys y 0)) (keyed_push keys key xs x)
  where
    by : (b : Bool) → first_keyed keys key (xs ++ x ∷ []) ≡ or_else (first_keyed keys key xs) (first_keyed keys key (x ∷ [])) → (if b then Some y else first_keyed keys key (xs ++ x ∷ [])) ≡ or_else (if b then Some y else first_keyed keys key xs) (first_keyed keys key (x ∷ []))
    by true h = refl
    by false h = h

pub in_push : (own : ℕ → Option ℕ) (xs : List ℕ) (x : ℕ) → first_in own (xs ++ x ∷ []) ≡ or_else (first_in own xs) (own x)
in_push own [] x = or_none (own x)
in_push own (y ∷ xs) x = ap (or_else (own y)) (in_push own xs x) ∙ sym (or_assoc (own y) (first_in own xs) (own x))

pub in_append : (own : ℕ → Option ℕ) (xs ys : List ℕ) → first_in own (xs ++ ys) ≡ or_else (first_in own xs) (first_in own ys)
in_append own [] ys = refl
in_append own (x ∷ xs) ys = ap (or_else (own x)) (in_append own xs ys) ∙ sym (or_assoc (own x) (first_in own xs) (first_in own ys))

keyed_cons : (keys : List ℕ) (k x : ℕ) (xs : List ℕ) → first_keyed keys k (x ∷ xs) ≡ or_else (first_keyed keys k (x ∷ [])) (first_keyed keys k xs)
keyed_cons keys k x xs = by (nat_eq k (get_or keys x 0))
  where
    by : (b : Bool) → (if b then Some x else first_keyed keys k xs) ≡ or_else (if b then Some x else None) (first_keyed keys k xs)
    by true = refl
    by false = refl

module _ (keys : List ℕ) (x : ℕ) where
  pub single_here : first_keyed keys (get_or keys x 0) (x ∷ []) ≡ Some x
  single_here = ap (λ b. if b then Some x else None) (eq-eqb (get_or keys x 0) (get_or keys x 0) refl)

  pub single_other : (k : ℕ) → (k ≡ get_or keys x 0 → ⊥) → first_keyed keys k (x ∷ []) ≡ None
  single_other k n = elim (eqb_tells k (get_or keys x 0)) [
    | inl t ↦ absurd (n t.1)
    | inr f ↦ ap (λ b. if b then Some x else None) f.0
  ]

some_or_else : (o p : Option ℕ) (v : ℕ) → o ≡ Some v → or_else o p ≡ o
some_or_else o p v e = ap (λ a. or_else a p) e ∙ sym e

none_or_else : (o p q : Option ℕ) → o ≡ None → p ≡ q → or_else o p ≡ q
none_or_else o p q e f = ap (λ a. or_else a p) e ∙ f

module _ (keys : List ℕ) (old : List Map) (from : ℕ) (mid : List Map) (m : ℕ) (row : List ℕ) (i : ℕ) (inside : i < length row) where
  more_row : (k : ℕ) (o : Option ℕ) → or_else (or_else o (first_keyed keys k (take i row))) (first_keyed keys k (get_or row i 0 ∷ [])) ≡ or_else o (first_keyed keys k (take (i + 1) row))
  more_row k o =
      or_assoc o (first_keyed keys k (take i row)) (first_keyed keys k (get_or row i 0 ∷ []))
      ∙ ap (or_else o) (sym (keyed_push keys k (take i row) (get_or row i 0)) ∙ ap (first_keyed keys k) (sym (take_more row i 0 inside)))

  pub added : (new : List Map) (to : ℕ) → Steps (length keys) mid m new to (λ k o. or_else o (first_keyed keys k (get_or row i 0 ∷ [])))
      → Steps (length keys) old from mid m (λ k o. or_else o (first_keyed keys k (take i row))) → Steps (length keys) old from new to (λ k o. or_else o (first_keyed keys k (take (i + 1) row)))
  added new to t s =
      renamed (length keys) old from new to (λ k o. or_else (or_else o (first_keyed keys k (take i row))) (first_keyed keys k (get_or row i 0 ∷ []))) (λ k o. or_else o (first_keyed keys k (take (i + 1) row)))
      (λ k. more_row k (at (get_or old from []) k))
      (both_steps (length keys) old from mid m new to (λ k o. or_else o (first_keyed keys k (take i row))) (λ k o. or_else o (first_keyed keys k (get_or row i 0 ∷ []))) s t)

  -- a class's row is added
  pub row_added : (rows : List (List ℕ)) (classes : List ℕ) (c : ℕ) (new : List Map) (to : ℕ) → c < length classes
      → Steps (length keys) mid m new to (λ k o. or_else o (first_keyed keys k (get_or rows (get_or classes c 0) [])))
      → Steps (length keys) old from mid m (λ k o. or_else o (first_in (own_keyed keys rows k) (take c classes)))
      → Steps (length keys) old from new to (λ k o. or_else o (first_in (own_keyed keys rows k) (take (c + 1) classes)))
  row_added rows classes c new to there t s =
      renamed (length keys) old from new to (λ k o. or_else (or_else o (first_in (own_keyed keys rows k) (take c classes))) (own_keyed keys rows k (get_or classes c 0))) (λ k o. or_else o (first_in (own_keyed keys rows k) (take (c + 1) classes)))
      (λ k. or_assoc (at (get_or old from []) k) (first_in (own_keyed keys rows k) (take c classes)) (own_keyed keys rows k (get_or classes c 0))
      ∙ ap (or_else (at (get_or old from []) k)) (sym (in_push (own_keyed keys rows k) (take c classes) (get_or classes c 0)) ∙ ap (first_in (own_keyed keys rows k)) (sym (take_more classes c 0 there))))
      (both_steps (length keys) old from mid m new to (λ k o. or_else o (first_in (own_keyed keys rows k) (take c classes))) (λ k o. or_else o (own_keyed keys rows k (get_or classes c 0))) s t)

  -- an own item is put
  pub own_put : (key : ℕ) (new : List Map) (to : ℕ) → key ≡ get_or keys (get_or row i 0) 0 → key < length keys
      → new ≡ mid ++ with_at (get_or mid m []) key (get_or row i 0) ∷ [] → to ≡ length mid
      → Steps (length keys) old from mid m (λ k o. or_else (first_keyed keys k (drop (i + 1) row)) o) → Steps (length keys) old from new to (λ k o. or_else (first_keyed keys k (drop i row)) o)
  own_put key new to is small made number s =
      renamed (length keys) old from new to (λ k o. or_else (first_keyed keys k (get_or row i 0 ∷ [])) (or_else (first_keyed keys k (drop (i + 1) row)) o)) (λ k o. or_else (first_keyed keys k (drop i row)) o)
      (λ k. sym (or_assoc (first_keyed keys k (get_or row i 0 ∷ [])) (first_keyed keys k (drop (i + 1) row)) (at (get_or old from []) k))
      ∙ ap (λ o. or_else o (at (get_or old from []) k)) (sym (keyed_cons keys k (get_or row i 0) (drop (i + 1) row)) ∙ ap (first_keyed keys k) (sym (drop_more row i 0 inside))))
      (both_steps (length keys) old from mid m new to (λ k o. or_else (first_keyed keys k (drop (i + 1) row)) o) (λ k o. or_else (first_keyed keys k (get_or row i 0 ∷ [])) o) s t)
    where
      t : Steps (length keys) mid m new to (λ k o. or_else (first_keyed keys k (get_or row i 0 ∷ [])) o)
      t = put_step (length keys) mid m key (get_or row i 0) new to (λ k o. or_else (first_keyed keys k (get_or row i 0 ∷ [])) o) s.sized s.there small made number
          (ap (λ p. or_else p (at (get_or mid m []) key)) (ap (λ k. first_keyed keys k (get_or row i 0 ∷ [])) is ∙ single_here keys (get_or row i 0)))
          (λ k n. ap (λ p. or_else p (at (get_or mid m []) k)) (single_other keys (get_or row i 0) k (λ e. n (e ∙ sym is))))

module _ (keys : List ℕ) (old : List Map) (from item : ℕ) (sized : AreSized (length keys) old) (there : from < length old) (small : get_or keys item 0 < length keys) where
  -- an item is put where none of its key is there
  pub missing_put : (new : List Map) (to : ℕ) → at (get_or old from []) (get_or keys item 0) ≡ None
      → new ≡ old ++ with_at (get_or old from []) (get_or keys item 0) item ∷ [] → to ≡ length old → Steps (length keys) old from new to (λ k o. or_else o (first_keyed keys k (item ∷ [])))
  missing_put new to none made number =
      put_step (length keys) old from (get_or keys item 0) item new to (λ k o. or_else o (first_keyed keys k (item ∷ []))) sized there small made number
      (none_or_else (at (get_or old from []) (get_or keys item 0)) (first_keyed keys (get_or keys item 0) (item ∷ [])) (Some item) none (single_here keys item))
      (λ k n. ap (or_else (at (get_or old from []) k)) (single_other keys item k n) ∙ or_none (at (get_or old from []) k))

  -- one of its key is there
  pub missing_pass : (value : ℕ) → at (get_or old from []) (get_or keys item 0) ≡ Some value → Steps (length keys) old from old from (λ k o. or_else o (first_keyed keys k (item ∷ [])))
  missing_pass value some = renamed (length keys) old from old from (λ k o. o) (λ k o. or_else o (first_keyed keys k (item ∷ []))) (λ k. by k (same_or_not k (get_or keys item 0))) (no_step (length keys) old from (λ k o. o) sized there (λ k o. refl))
    where
      by : (k : ℕ) → (k ≡ get_or keys item 0) ⊎ (k ≡ get_or keys item 0 → ⊥) → at (get_or old from []) k ≡ or_else (at (get_or old from []) k) (first_keyed keys k (item ∷ []))
      by k (inl e) = sym (some_or_else (at (get_or old from []) k) (first_keyed keys k (item ∷ [])) value (ap (at (get_or old from [])) e ∙ some))
      by k (inr n) = sym (ap (or_else (at (get_or old from []) k)) (single_other keys item k n) ∙ or_none (at (get_or old from []) k))

-- what a call that puts answers
pub put_where_ok : {E : Type 0} (r : Result ℕ E) (keys : List ℕ) (old : List Map) (from item : ℕ) (new : List Map) → AreSized (length keys) old → from < length old → get_or keys item 0 < length keys
    → at (get_or old from []) (get_or keys item 0) ≡ None → OnOk r (new ≡ old ++ with_at (get_or old from []) (get_or keys item 0) item ∷ []) → IfOk r (λ n. n ≡ length old)
    → IfOk r (λ n. Steps (length keys) old from new n (λ k o. or_else o (first_keyed keys k (item ∷ []))))
put_where_ok (Ok to) keys old from item new sized there small none made number = missing_put keys old from item sized there small new to none made number
put_where_ok (Err e) keys old from item new sized there small none made number = tt
