-- Paths and checks: the list of paths has each path once, and each check that fails is in the list of checks.
use Rattle.std.specs.Prelude.{◌≡◌, ◌≢◌, ◌⊎◌, ◌↔◌, ℕ, zero, suc, ◌<◌, ◌≤◌, ◌+◌, List, [], ◌∷◌, ◌++◌, map, length, slice_index_or}
use Rattle.std.specs.List.{All, AllPairs, Contains}
use Rattle.std.proofs.Common.{refl, sym, ap, subst, ◌∙◌, inl, inr, arith}
use Rattle.std.proofs.lemmas.List.Elements.{All-map, All-append, All-weaker, Contains-append_left, Contains-append_right, Contains-append_cases, All-contains_itself}
use Rattle.std.proofs.lemmas.List.Kept.{AllPairs-cons}
use Rattle.jesc_text.specs.declared.place.Place.{Place}
use Rattle.jesc_core.specs.Trees.{Failure, StepTree, assume, check, assign, keep, write, write_element, make, build, havoc, branch, block, leave, stop, CoreTree, done, next, CoreTrees, no_cores, more_cores}
use Rattle.jesc_core.specs.Heaps.{Reading, State, first_state}
use Rattle.jesc_core.specs.Fields.{field_count}
use Rattle.jesc_core.specs.Runs.{Turn, After, inside_block, run_step, run_core, run_way, nowhere, Fails}
use Rattle.jesc_core.specs.Walks.{Onward, walk_step, walk_core, walk_way, IsPath, Paths, paths_of_step, paths_of_core, paths_of_ways, paths_of, Reached, checks_of_step, checks_of_core, checks_of_ways, checks_of}

-- ---- lists

here : {X : Type 0} (x : X) (xs : List X) → Contains (x ∷ xs) x
here x xs = (0, omega arith, refl)

later : {X : Type 0} (y : X) (xs : List X) (x : X) → Contains xs x → Contains (y ∷ xs) x
later y xs x h = Contains-append_right (y ∷ []) xs x h

-- an element is the first or one of the others
either_first : {X : Type 0} (y : X) (xs : List X) (x : X) → Contains (y ∷ xs) x → (y ≡ x) ⊎ Contains xs x
either_first y xs x h = by h.0 h.1 h.2
  where
    by : (k : ℕ) → k < suc (length xs) → slice_index_or (y ∷ xs) k x ≡ x → (y ≡ x) ⊎ Contains xs x
    by zero lt e = inl e
    by (suc k) lt e = inr (k, omega arith, e)

in_map : {X Y : Type 0} (f : X → Y) (xs : List X) (x : X) → Contains xs x → Contains (map f xs) (f x)
in_map f [] x h = absurd (omega (arith, h.1))
in_map f (y ∷ xs) x h = by (either_first y xs x h) (in_map f xs x)
  where
    by : (y ≡ x) ⊎ Contains xs x → (Contains xs x → Contains (map f xs) (f x)) → Contains (map f (y ∷ xs)) (f x)
    by (inl e) on = subst (λ z. Contains (map f (y ∷ xs)) (f z)) e (here (f y) (map f xs))
    by (inr k) on = later (f y) (map f xs) (f x) (on k)

abbrev From : {X Y : Type 0} → (X → Y) → List X → Y → Type 0
From {X} f xs y = (x : X) × Contains xs x × (f x ≡ y)

from_map : {X Y : Type 0} (f : X → Y) (xs : List X) (y : Y) → Contains (map f xs) y → From f xs y
from_map f [] y h = absurd (omega (arith, h.1))
from_map f (x ∷ xs) y h = by (either_first (f x) (map f xs) y h) (from_map f xs y)
  where
    by : (f x ≡ y) ⊎ Contains (map f xs) y → (Contains (map f xs) y → From f xs y) → From f (x ∷ xs) y
    by (inl e) on = (x, here x xs, e)
    by (inr k) on = let r = on k in (r.0, later x xs r.0 r.1, r.2)

-- no two elements are equal
abbrev pub AreApart : {X : Type 0} → List X → Type 0
AreApart xs = AllPairs (λ x y. x ≢ y) xs

apart_first : {X : Type 0} (x : X) (xs : List X) → AreApart (x ∷ xs) → All (λ y. x ≢ y) xs
apart_first x xs h k d lt = h 0 (suc k) d (omega arith) (omega arith)

apart_rest : {X : Type 0} (x : X) (xs : List X) → AreApart (x ∷ xs) → AreApart xs
apart_rest x xs h i j d lt l = h (suc i) (suc j) d (omega arith) (omega arith)

apart_append : {X : Type 0} (xs ys : List X) → AreApart xs → AreApart ys → ((x y : X) → Contains xs x → Contains ys y → x ≢ y) → AreApart (xs ++ ys)
apart_append [] ys h k other = k
apart_append (x ∷ xs) ys h k other =
    AllPairs-cons (λ a b. a ≢ b) x (xs ++ ys)
    (All-append (λ b. x ≢ b) xs ys (apart_first x xs h) (All-weaker (Contains ys) (λ b. x ≢ b) (λ b c. other x b (here x xs) c) ys (All-contains_itself ys)))
    (apart_append xs ys (apart_rest x xs h) k (λ a b c. other a b (later x xs a c)))

apart_map : {X Y : Type 0} (f : X → Y) (xs : List X) → ((a b : X) → f a ≡ f b → a ≡ b) → AreApart xs → AreApart (map f xs)
apart_map f [] one h = λ i j d lt l. absurd (omega arith)
apart_map f (x ∷ xs) one h =
    AllPairs-cons (λ a b. a ≢ b) (f x) (map f xs)
    (All-map (λ b. f x ≢ b) f xs (All-weaker (λ b. x ≢ b) (λ b. f x ≢ f b) (λ b n e. n (one x b e)) xs (apart_first x xs h)))
    (apart_map f xs one (apart_rest x xs h))

-- ---- a check that fails is in the list

module _ (reading : Reading) (fields : ℕ) (failure : Failure) where
  abbrev pub Finds : After → List Reached → Type 0
  Finds a xs = (st : State) (turns : List Turn) → a st turns → Contains xs (turns, failure)

  finds_inside : (a : After) (l : ℕ → After) (xs : List Reached) (ls : ℕ → List Reached) → Finds a xs → ((d : ℕ) → Finds (l d) (ls d)) → (d : ℕ) → Finds (inside_block a l d) (inside_block xs ls d)
  finds_inside a l xs ls h k zero = h
  finds_inside a l xs ls h k (suc d) = k d

  mutual
    pub finds_step : (s : StepTree) (a : After) (l : ℕ → After) (xs : List Reached) (ls : ℕ → List Reached) → Finds a xs → ((d : ℕ) → Finds (l d) (ls d)) → Finds (run_step reading fields failure s a l) (checks_of_step s xs ls)
    finds_step (assume f) a l xs ls h k st turns r = h st turns r.1
    finds_step (check own f) a l xs ls h k st turns (inl r) =
        subst (λ t. Contains (([], own) ∷ xs) (t, failure)) (sym r.2) (subst (λ g. Contains (([], own) ∷ xs) ([], g)) r.1 (here ([], own) xs))
    finds_step (check own f) a l xs ls h k st turns (inr r) = later ([], own) xs (turns, failure) (h st turns r.1)
    finds_step (assign x t) a l xs ls h k st turns r = h _ turns r
    finds_step (keep n) a l xs ls h k st turns r = h _ turns r
    finds_step (write f object v) a l xs ls h k st turns r = h _ turns r
    finds_step (write_element array index v) a l xs ls h k st turns r = h _ turns r
    finds_step (make x ty size) a l xs ls h k st turns r = h _ turns r.1
    finds_step (build object) a l xs ls h k st turns r = h _ turns r
    finds_step (havoc x frame) a l xs ls h k st turns r = h _ turns r.1
    finds_step (branch place cores) a l xs ls h k st [] r = absurd r
    finds_step (branch place cores) a l xs ls h k st (turn ∷ turns) r =
        subst (λ p. Contains (checks_of_ways cores place 0 xs ls) ((p, turn.1) ∷ turns, failure)) (sym r.0)
        (subst (λ n. Contains (checks_of_ways cores place 0 xs ls) ((place, n) ∷ turns, failure)) (omega arith) (finds_way cores turn.1 place 0 a l xs ls h k st turns r.1))
    finds_step (block core) a l xs ls h k st turns r = finds_core core a (inside_block a l) xs (inside_block xs ls) h (finds_inside a l xs ls h k) st turns r
    finds_step (leave depth) a l xs ls h k st turns r = k depth st turns r
    finds_step stop a l xs ls h k st turns r = absurd r

    pub finds_core : (c : CoreTree) (a : After) (l : ℕ → After) (xs : List Reached) (ls : ℕ → List Reached) → Finds a xs → ((d : ℕ) → Finds (l d) (ls d)) → Finds (run_core reading fields failure c a l) (checks_of_core c xs ls)
    finds_core done a l xs ls h k st turns r = h st turns r
    finds_core (next s rest) a l xs ls h k st turns r = finds_step s (run_core reading fields failure rest a l) l (checks_of_core rest xs ls) ls (finds_core rest a l xs ls h k) k st turns r

    finds_way : (cs : CoreTrees) (way : ℕ) (place : Place) (n : ℕ) (a : After) (l : ℕ → After) (xs : List Reached) (ls : ℕ → List Reached) → Finds a xs → ((d : ℕ) → Finds (l d) (ls d)) → (st : State) (turns : List Turn) → run_way reading fields failure cs way a l st turns → Contains (checks_of_ways cs place n xs ls) ((place, n + way) ∷ turns, failure)
    finds_way no_cores way place n a l xs ls h k st turns r = absurd r
    finds_way (more_cores c cs) zero place n a l xs ls h k st turns r =
        let e : n ≡ n + 0 = omega arith in
        subst (λ m. Contains (checks_of_ways (more_cores c cs) place n xs ls) ((place, m) ∷ turns, failure)) e
        (Contains-append_left (map (λ (t, f). ((place, n) ∷ t, f)) (checks_of_core c xs ls)) (checks_of_ways cs place (suc n) xs ls) ((place, n) ∷ turns, failure)
        (in_map (λ (t, f). ((place, n) ∷ t, f)) (checks_of_core c xs ls) (turns, failure) (finds_core c a l xs ls h k st turns r)))
    finds_way (more_cores c cs) (suc way) place n a l xs ls h k st turns r =
        let e : suc n + way ≡ n + suc way = omega arith in
        Contains-append_right (map (λ (t, f). ((place, n) ∷ t, f)) (checks_of_core c xs ls)) (checks_of_ways cs place (suc n) xs ls) ((place, n + suc way) ∷ turns, failure)
        (subst (λ m. Contains (checks_of_ways cs place (suc n) xs ls) ((place, m) ∷ turns, failure)) e (finds_way cs way place (suc n) a l xs ls h k st turns r))

pub finds : (reading : Reading) (core : CoreTree) (turns : List Turn) (failure : Failure) → Fails reading core turns failure → Contains (checks_of core) (turns, failure)
finds reading core turns failure r =
    finds_core reading (field_count core) failure core nowhere (λ depth. nowhere) [] (λ depth. []) (λ st t p. absurd p) (λ depth st t p. absurd p) (first_state reading (field_count core)) turns r

-- ---- the list of paths has the paths

-- the list has the turns that lead there
pub record Lists (a : Onward) (xs : Paths) : Type 0 where
  pub into : (turns : List Turn) → a turns → Contains xs turns
  pub back : (turns : List Turn) → Contains xs turns → a turns

lists_inside : (a : Onward) (l : ℕ → Onward) (xs : Paths) (ls : ℕ → Paths) → Lists a xs → ((d : ℕ) → Lists (l d) (ls d)) → (d : ℕ) → Lists (inside_block a l d) (inside_block xs ls d)
lists_inside a l xs ls h k zero = h
lists_inside a l xs ls h k (suc d) = k d

-- the path turns at the place into a way from n on, and goes on so
record Turns (place : Place) (n : ℕ) (on : ℕ → Onward) (path : List Turn) : Type 0 where
  way : ℕ
  turns : List Turn
  is : path ≡ (place, n + way) ∷ turns
  goes : on way turns

-- a list of nothing is empty
only_end : Lists (λ turns. turns ≡ []) ([] ∷ [])
only_end = record { into = λ turns e. subst (Contains ([] ∷ [])) (sym e) (here [] []); back = λ turns h. by turns (either_first [] [] turns h) }
  where
    by : (turns : List Turn) → ([] ≡ turns) ⊎ Contains [] turns → turns ≡ []
    by turns (inl e) = sym e
    by turns (inr h) = absurd (omega (arith, h.1))

mutual
  pub lists_step : (s : StepTree) (a : Onward) (l : ℕ → Onward) (xs : Paths) (ls : ℕ → Paths) → Lists a xs → ((d : ℕ) → Lists (l d) (ls d)) → Lists (walk_step s a l) (paths_of_step s xs ls)
  lists_step (assume f) a l xs ls h k = h
  lists_step (check own f) a l xs ls h k = h
  lists_step (assign x t) a l xs ls h k = h
  lists_step (keep n) a l xs ls h k = h
  lists_step (write f object v) a l xs ls h k = h
  lists_step (write_element array index v) a l xs ls h k = h
  lists_step (make x ty size) a l xs ls h k = h
  lists_step (build object) a l xs ls h k = h
  lists_step (havoc x frame) a l xs ls h k = h
  lists_step (branch place cores) a l xs ls h k = by (into_ways cores place 0 a l xs ls h k) (back_ways cores place 0 a l xs ls h k)
    where
      into : ((way : ℕ) (turns : List Turn) → walk_way cores way a l turns → Contains (paths_of_ways cores place 0 xs ls) ((place, 0 + way) ∷ turns)) → (path : List Turn) → walk_step (branch place cores) a l path → Contains (paths_of_ways cores place 0 xs ls) path
      into on [] r = absurd r
      into on (turn ∷ turns) r =
          subst (λ p. Contains (paths_of_ways cores place 0 xs ls) ((p, turn.1) ∷ turns)) (sym r.0)
          (subst (λ n. Contains (paths_of_ways cores place 0 xs ls) ((place, n) ∷ turns)) (omega arith) (on turn.1 turns r.1))

      back : (path : List Turn) → Turns place 0 (λ way. walk_way cores way a l) path → walk_step (branch place cores) a l path
      back path r =
          subst (walk_step (branch place cores) a l) (sym r.is)
          (refl, subst (λ n. walk_way cores n a l r.turns) (omega arith) r.goes)

      by : ((way : ℕ) (turns : List Turn) → walk_way cores way a l turns → Contains (paths_of_ways cores place 0 xs ls) ((place, 0 + way) ∷ turns)) → ((path : List Turn) → Contains (paths_of_ways cores place 0 xs ls) path → Turns place 0 (λ way. walk_way cores way a l) path) → Lists (walk_step (branch place cores) a l) (paths_of_ways cores place 0 xs ls)
      by i b = record { into = into i; back = λ path h. back path (b path h) }
  lists_step (block core) a l xs ls h k = lists_core core a (inside_block a l) xs (inside_block xs ls) h (lists_inside a l xs ls h k)
  lists_step (leave depth) a l xs ls h k = k depth
  lists_step stop a l xs ls h k = only_end

  pub lists_core : (c : CoreTree) (a : Onward) (l : ℕ → Onward) (xs : Paths) (ls : ℕ → Paths) → Lists a xs → ((d : ℕ) → Lists (l d) (ls d)) → Lists (walk_core c a l) (paths_of_core c xs ls)
  lists_core done a l xs ls h k = h
  lists_core (next s rest) a l xs ls h k = lists_step s (walk_core rest a l) l (paths_of_core rest xs ls) ls (lists_core rest a l xs ls h k) k

  into_ways : (cs : CoreTrees) (place : Place) (n : ℕ) (a : Onward) (l : ℕ → Onward) (xs : Paths) (ls : ℕ → Paths) → Lists a xs → ((d : ℕ) → Lists (l d) (ls d)) → (way : ℕ) (turns : List Turn) → walk_way cs way a l turns → Contains (paths_of_ways cs place n xs ls) ((place, n + way) ∷ turns)
  into_ways no_cores place n a l xs ls h k way turns r = absurd r
  into_ways (more_cores c cs) place n a l xs ls h k zero turns r =
      let e : n ≡ n + 0 = omega arith in
      subst (λ m. Contains (paths_of_ways (more_cores c cs) place n xs ls) ((place, m) ∷ turns)) e
      (Contains-append_left (map (λ t. (place, n) ∷ t) (paths_of_core c xs ls)) (paths_of_ways cs place (suc n) xs ls) ((place, n) ∷ turns)
      (in_map (λ t. (place, n) ∷ t) (paths_of_core c xs ls) turns (let on = lists_core c a l xs ls h k in on.into turns r)))
  into_ways (more_cores c cs) place n a l xs ls h k (suc way) turns r =
      let e : suc n + way ≡ n + suc way = omega arith in
      Contains-append_right (map (λ t. (place, n) ∷ t) (paths_of_core c xs ls)) (paths_of_ways cs place (suc n) xs ls) ((place, n + suc way) ∷ turns)
      (subst (λ m. Contains (paths_of_ways cs place (suc n) xs ls) ((place, m) ∷ turns)) e (into_ways cs place (suc n) a l xs ls h k way turns r))

  back_ways : (cs : CoreTrees) (place : Place) (n : ℕ) (a : Onward) (l : ℕ → Onward) (xs : Paths) (ls : ℕ → Paths) → Lists a xs → ((d : ℕ) → Lists (l d) (ls d)) → (path : List Turn) → Contains (paths_of_ways cs place n xs ls) path → Turns place n (λ way. walk_way cs way a l) path
  back_ways no_cores place n a l xs ls h k path r = absurd (omega (arith, r.1))
  back_ways (more_cores c cs) place n a l xs ls h k path r =
      by (Contains-append_cases (map (λ t. (place, n) ∷ t) (paths_of_core c xs ls)) (paths_of_ways cs place (suc n) xs ls) path r) (lists_core c a l xs ls h k) (back_ways cs place (suc n) a l xs ls h k path)
    where
      by : Contains (map (λ t. (place, n) ∷ t) (paths_of_core c xs ls)) path ⊎ Contains (paths_of_ways cs place (suc n) xs ls) path → Lists (walk_core c a l) (paths_of_core c xs ls) → (Contains (paths_of_ways cs place (suc n) xs ls) path → Turns place (suc n) (λ way. walk_way cs way a l) path) → Turns place n (λ way. walk_way (more_cores c cs) way a l) path
      by (inl m) first others =
          let f = from_map (λ t. (place, n) ∷ t) (paths_of_core c xs ls) path m in
          let e : n ≡ n + 0 = omega arith in
          record { way = 0; turns = f.0; is = sym f.2 ∙ (λ i. (place, e i) ∷ f.0); goes = first.back f.0 f.1 }
      by (inr m) first others =
          let t = others m in
          let e : suc n + t.way ≡ n + suc t.way = omega arith in
          record { way = suc t.way; turns = t.turns; is = t.is ∙ (λ i. (place, e i) ∷ t.turns); goes = t.goes }

whole : (core : CoreTree) → Lists (walk_core core (λ rest. rest ≡ []) (λ depth rest. ⊥)) (paths_of core)
whole core = lists_core core (λ rest. rest ≡ []) (λ depth rest. ⊥) ([] ∷ []) (λ depth. []) only_end (λ depth. record { into = λ turns p. absurd p; back = λ turns h. absurd (omega (arith, h.1)) })

pub lists_paths : (core : CoreTree) (turns : List Turn) → IsPath core turns ↔ Contains (paths_of core) turns
lists_paths core turns = let w = whole core in (w.into turns, w.back turns)

-- ---- and each of them once

apart_inside : (xs : Paths) (ls : ℕ → Paths) → AreApart xs → ((d : ℕ) → AreApart (ls d)) → (d : ℕ) → AreApart (inside_block xs ls d)
apart_inside xs ls h k zero = h
apart_inside xs ls h k (suc d) = k d

-- the path begins with a way from n on
record BeginsFrom (n : ℕ) (path : List Turn) : Type 0 where
  way : ℕ
  from : n ≤ way
  place : Place
  turns : List Turn
  is : path ≡ (place, way) ∷ turns

begins_from : (cs : CoreTrees) (place : Place) (n : ℕ) (xs : Paths) (ls : ℕ → Paths) (path : List Turn) → Contains (paths_of_ways cs place n xs ls) path → BeginsFrom n path
begins_from no_cores place n xs ls path h = absurd (omega (arith, h.1))
begins_from (more_cores c cs) place n xs ls path h =
    by (Contains-append_cases (map (λ t. (place, n) ∷ t) (paths_of_core c xs ls)) (paths_of_ways cs place (suc n) xs ls) path h) (begins_from cs place (suc n) xs ls path)
  where
    by : Contains (map (λ t. (place, n) ∷ t) (paths_of_core c xs ls)) path ⊎ Contains (paths_of_ways cs place (suc n) xs ls) path → (Contains (paths_of_ways cs place (suc n) xs ls) path → BeginsFrom (suc n) path) → BeginsFrom n path
    by (inl m) on = let f = from_map (λ t. (place, n) ∷ t) (paths_of_core c xs ls) path m in record { way = n; from = omega arith; place = place; turns = f.0; is = sym f.2 }
    by (inr m) on = let b = on m in let l = b.from in record { way = b.way; from = omega arith; place = b.place; turns = b.turns; is = b.is }

-- the first way of a path, and what is behind it
abbrev first_way : List Turn → ℕ
first_way [] = 0
first_way (turn ∷ turns) = turn.1

abbrev behind : List Turn → List Turn
behind [] = []
behind (turn ∷ turns) = turns

other_way : (place : Place) (n : ℕ) (c : CoreTree) (cs : CoreTrees) (xs : Paths) (ls : ℕ → Paths) (s t : List Turn) →
    Contains (map (λ u. (place, n) ∷ u) (paths_of_core c xs ls)) s → Contains (paths_of_ways cs place (suc n) xs ls) t → s ≢ t
other_way place n c cs xs ls s t h k e =
    let f = from_map (λ u. (place, n) ∷ u) (paths_of_core c xs ls) s h in
    let b = begins_from cs place (suc n) xs ls t k in
    let same : n ≡ b.way = ap first_way (f.2 ∙ e ∙ b.is) in
    let l = b.from in
    omega arith

mutual
  apart_step : (s : StepTree) (xs : Paths) (ls : ℕ → Paths) → AreApart xs → ((d : ℕ) → AreApart (ls d)) → AreApart (paths_of_step s xs ls)
  apart_step (assume f) xs ls h k = h
  apart_step (check own f) xs ls h k = h
  apart_step (assign x t) xs ls h k = h
  apart_step (keep n) xs ls h k = h
  apart_step (write f object v) xs ls h k = h
  apart_step (write_element array index v) xs ls h k = h
  apart_step (make x ty size) xs ls h k = h
  apart_step (build object) xs ls h k = h
  apart_step (havoc x frame) xs ls h k = h
  apart_step (branch place cores) xs ls h k = apart_ways cores place 0 xs ls h k
  apart_step (block core) xs ls h k = apart_core core xs (inside_block xs ls) h (apart_inside xs ls h k)
  apart_step (leave depth) xs ls h k = k depth
  apart_step stop xs ls h k = λ i j d lt l. absurd (omega (arith, lt, l))

  apart_core : (c : CoreTree) (xs : Paths) (ls : ℕ → Paths) → AreApart xs → ((d : ℕ) → AreApart (ls d)) → AreApart (paths_of_core c xs ls)
  apart_core done xs ls h k = h
  apart_core (next s rest) xs ls h k = apart_step s (paths_of_core rest xs ls) ls (apart_core rest xs ls h k) k

  apart_ways : (cs : CoreTrees) (place : Place) (n : ℕ) (xs : Paths) (ls : ℕ → Paths) → AreApart xs → ((d : ℕ) → AreApart (ls d)) → AreApart (paths_of_ways cs place n xs ls)
  apart_ways no_cores place n xs ls h k = λ i j d lt l. absurd (omega arith)
  apart_ways (more_cores c cs) place n xs ls h k =
      apart_append (map (λ u. (place, n) ∷ u) (paths_of_core c xs ls)) (paths_of_ways cs place (suc n) xs ls)
      (apart_map (λ u. (place, n) ∷ u) (paths_of_core c xs ls) (λ a b e. ap behind e) (apart_core c xs ls h k))
      (apart_ways cs place (suc n) xs ls h k)
      (other_way place n c cs xs ls)

pub apart_paths : (core : CoreTree) → AreApart (paths_of core)
apart_paths core = apart_core core ([] ∷ []) (λ depth. []) (λ i j d lt l. absurd (omega (arith, lt, l))) (λ depth i j d lt l. absurd (omega arith))
