-- An order has each class once, and where it is as long as the table of classes it has all of them.
use Rattle.std.proofs.Common.{◌≡◌, ℕ, zero, suc, ◌+◌, ◌<◌, ◌≤◌, ◌⊎◌, inl, inr, Bool, true, false, true≢false, ◌||◌, nat_lt, ltb-true, ltb-false, nat_eq, eqb-true, eq-eqb, Some, List, [], ◌∷◌, ◌++◌, length, get_or, refl, sym, ap, ◌∙◌, subst, arith}
use Rattle.std.proofs.lemmas.List.{length-append, get_or_default}
use Rattle.std.proofs.Math.ListN.{get_or-append}
use Rattle.std.proofs.Math.Seq.{get_or-append_seam}
use Rattle.std.proofs.lemmas.Map.Steps.{length-le_from_distinct_below}
use Rattle.std.specs.List.{AllByRecursion, Contains, IsDistinct, list_any, slice_get}
use Rattle.jesc_classes.specs.Order.{Graph, IsOrder, ended, next, IsWhole, IsAcyclic}
use Rattle.jesc_classes.specs.Headings.{Source, AllHold, walk, graph_of}
use Rattle.jesc_classes.specs.Resolved.{IsId}
use Rattle.jesc_classes.specs.Entries.{AreApart, IsNumbering, AreIds, id_in}
use Rattle.jesc_classes.specs.laws.Orders.{are_classes, parents_first, ParentsFirst, whole_exactly_acyclic}
use Rattle.jesc_classes.specs.laws.Graphs.{graph_length, graph_within}
use Rattle.jesc_classes.specs.laws.Firsts.{seven, first_seven}
use Rattle.jesc_classes.specs.laws.Walks.{acyclic}

-- where one more class comes last
module _ (xs : List ℕ) (x : ℕ) where
  kept : (i : ℕ) → i < length xs → get_or (xs ++ x ∷ []) i 0 ≡ get_or xs i 0
  kept i l = get_or-append xs (x ∷ []) 0 i l

  last : (i : ℕ) → i ≡ length xs → get_or (xs ++ x ∷ []) i 0 ≡ x
  last i e = ap (λ k. get_or (xs ++ x ∷ []) k 0) e ∙ get_or-append_seam xs x [] 0

  more_apart : (Contains xs x → ⊥) → AreApart xs → AreApart (xs ++ x ∷ [])
  more_apart waits apart i j lt l e = by (nat_lt j (length xs)) refl
    where
      by : (t : Bool) → nat_lt j (length xs) ≡ t → ⊥
      by true f =
          let m = ltb-true j (length xs) f in
          apart i j lt m (sym (kept i (omega (arith, lt, m))) ∙ e ∙ kept j m)
      by false f =
          let at : j ≡ length xs = omega (arith, l, length-append xs (x ∷ []), ltb-false j (length xs) f) in
          let m : i < length xs = omega (arith, lt, at) in
          waits (i, m, get_or_default xs i x 0 m ∙ sym (kept i m) ∙ e ∙ last j at)

apart_from : (graph : Graph) (done order : List ℕ) → IsOrder graph done order → AreApart done → AreApart order
apart_from graph done order (ended d stops) h = h
apart_from graph done order (next d o class n rest) h = apart_from graph (d ++ class ∷ []) o rest (more_apart d class n.ready.waits h)

pub order_apart : (graph : Graph) (order : List ℕ) → IsOrder graph [] order → AreApart order
order_apart graph order h = apart_from graph [] order h (λ i j lt l e. omega (arith, l))

pub order_within : (graph : Graph) (order : List ℕ) → IsOrder graph [] order → (i : ℕ) → i < length order → get_or order i 0 < length graph
order_within graph order h i l = (are_classes graph order h).below i 0 l

-- one number has one id
pub same_id : (order : List ℕ) → AreApart order → (i j : ℕ) → i < length order → j < length order → get_or order i 0 ≡ get_or order j 0 → i ≡ j
same_id order apart i j l m e = by (nat_lt i j) refl (nat_lt j i) refl
  where
    by : (a : Bool) → nat_lt i j ≡ a → (b : Bool) → nat_lt j i ≡ b → i ≡ j
    by true f b g = absurd (apart i j (ltb-true i j f) m e)
    by false f true g = absurd (apart j i (ltb-true j i g) l (sym e))
    by false f false g = omega (arith, ltb-false i j f, ltb-false j i g)

-- ---- an order of the given classes

in_seven : (rest : List ℕ) (k : ℕ) → k < 7 → slice_get (seven ++ rest) k ≡ Some k
in_seven rest zero l = refl
in_seven rest (suc zero) l = refl
in_seven rest (suc (suc zero)) l = refl
in_seven rest (suc (suc (suc zero))) l = refl
in_seven rest (suc (suc (suc (suc zero)))) l = refl
in_seven rest (suc (suc (suc (suc (suc zero))))) l = refl
in_seven rest (suc (suc (suc (suc (suc (suc zero)))))) l = refl
in_seven rest (suc (suc (suc (suc (suc (suc (suc k))))))) l = absurd (omega (arith, l))

pub numbering : (given : List Source) (order : List ℕ) → IsOrder (graph_of given) [] order → IsNumbering given order
numbering given order is = record {
  apart = apart;
  within = λ i l. omega (arith, order_within (graph_of given) order is i l, graph_length given);
  first = λ k l. let r = first_seven given order is in subst (λ o. slice_get o k ≡ Some k) (sym r.1) (in_seven r.0 k l);
  parents = λ i j l m c.
      let r = up i l (get_or order j 0) c in
      let same = same_id order apart r.0 j (omega (arith, r.1, l)) m r.2 in
      omega (arith, same, r.1);
}
  where
    apart : AreApart order
    apart = order_apart (graph_of given) order is

    up : ParentsFirst (graph_of given) order
    up = parents_first (graph_of given) [] order is (λ i l s m. absurd (omega (arith, l)))

-- ---- whether it has all classes

tests_apart : (x : ℕ) (xs : List ℕ) → ((k : ℕ) → k < length xs → x ≡ get_or xs k 0 → ⊥) → AllByRecursion (λ y. nat_eq x y ≡ false) xs
tests_apart x [] f = tt
tests_apart x (y ∷ xs) f = (by (nat_eq x y) refl, tests_apart x xs (λ k l e. f (suc k) (omega (arith, l)) e))
  where
    by : (b : Bool) → nat_eq x y ≡ b → nat_eq x y ≡ false
    by true e = absurd (f 0 (omega arith) (eqb-true x y e))
    by false e = e

distinct : (xs : List ℕ) → AreApart xs → IsDistinct nat_eq xs
unfolding IsDistinct
distinct [] h = tt
distinct (x ∷ xs) h = (tests_apart x xs (λ k l e. h 0 (suc k) (omega arith) (omega (arith, l)) e), distinct xs (λ i j lt l e. h (suc i) (suc j) (omega (arith, lt)) (omega (arith, l)) e))

all_below : (n : ℕ) (xs : List ℕ) → ((i : ℕ) → i < length xs → get_or xs i 0 < n) → (q : ℕ) → list_any (nat_eq q) xs ≡ true → q < n
all_below n [] h q e = absurd (true≢false (sym e))
all_below n (x ∷ xs) h q e = by (nat_eq q x) refl e (all_below n xs (λ i l. h (suc i) (omega (arith, l))) q)
  where
    by : (b : Bool) → nat_eq q x ≡ b → (b || list_any (nat_eq q) xs) ≡ true → (list_any (nat_eq q) xs ≡ true → q < n) → q < n
    by true f k rest = subst (λ y. y < n) (sym (eqb-true q x f)) (h 0 (omega arith))
    by false f k rest = rest k

-- so many classes at most
pub at_most : (n : ℕ) (order : List ℕ) → AreApart order → ((i : ℕ) → i < length order → get_or order i 0 < n) → length order ≤ n
at_most n order apart within = length-le_from_distinct_below order n (distinct order apart) (all_below n order within)

find_in : (xs : List ℕ) (q : ℕ) → Contains xs q ⊎ ((i : ℕ) → i < length xs → get_or xs i 0 ≡ q → ⊥)
find_in [] q = inr (λ i l e. omega (arith, l))
find_in (x ∷ xs) q = by (nat_eq x q) refl (find_in xs q)
  where
    by : (b : Bool) → nat_eq x q ≡ b → Contains xs q ⊎ ((i : ℕ) → i < length xs → get_or xs i 0 ≡ q → ⊥) → Contains (x ∷ xs) q ⊎ ((i : ℕ) → i < length (x ∷ xs) → get_or (x ∷ xs) i 0 ≡ q → ⊥)
    by true e r = inl (0, omega arith, eqb-true x q e)
    by false e (inl c) = inl (suc c.0, omega (arith, c.1), c.2)
    by false e (inr n) = inr none
      where
        none : (i : ℕ) → i < length (x ∷ xs) → get_or (x ∷ xs) i 0 ≡ q → ⊥
        none zero l f = true≢false (sym (eq-eqb x q f) ∙ e)
        none (suc i) l f = n i (omega (arith, l)) f

-- where there are as many as there can be, none is missing
pub all_there : (n : ℕ) (order : List ℕ) → AreApart order → ((i : ℕ) → i < length order → get_or order i 0 < n) → n ≤ length order → (class : ℕ) → class < n → Contains order class
all_there n order apart within long class l = elim (find_in order class) [
  | inl c ↦ c
  | inr missing ↦ absurd (too_many missing)
]
  where
    too_many : ((i : ℕ) → i < length order → get_or order i 0 ≡ class → ⊥) → ⊥
    too_many missing = let few = at_most n (class ∷ order) more in_range in omega (arith, few, long)
      where
        more : AreApart (class ∷ order)
        more zero zero lt m e = omega (arith, lt)
        more zero (suc j) lt m e = missing j (omega (arith, m)) (sym e)
        more (suc i) zero lt m e = omega (arith, lt)
        more (suc i) (suc j) lt m e = apart i j (omega (arith, lt)) (omega (arith, m)) e

        in_range : (i : ℕ) → i < length (class ∷ order) → get_or (class ∷ order) i 0 < n
        in_range zero m = l
        in_range (suc i) m = within i (omega (arith, m))

pub acyclic_where_long : (given : List Source) (order : List ℕ) → IsOrder (graph_of given) [] order → length (graph_of given) ≤ length order → IsAcyclic (graph_of given)
acyclic_where_long given order is long =
    let graph = graph_of given in
    (whole_exactly_acyclic graph order (graph_within given) is).0 (all_there (length graph) order (order_apart graph order is) (order_within graph order is) long)

-- where no rule on headings is broken, it has all
pub whole : (given : List Source) (order : List ℕ) → AllHold given (walk given) → IsOrder (graph_of given) [] order → IsWhole (graph_of given) order
whole given order holds is = (whole_exactly_acyclic (graph_of given) order (graph_within given) is).1 (acyclic given holds)

-- the places of the classes below k, the last class first
module _ (n : ℕ) (order : List ℕ) (all : (class : ℕ) → class < n → Contains order class) where
  abbrev places : (k : ℕ) → k ≤ n → List ℕ
  places zero l = []
  places (suc k) l = (all k (omega (arith, l))).0 ∷ places k (omega (arith, l))

  places_length : (k : ℕ) (l : k ≤ n) → length (places k l) ≡ k
  places_length zero l = refl
  places_length (suc k) l = omega (arith, places_length k (omega (arith, l)))

  place_below : (k : ℕ) (l : k ≤ n) (i : ℕ) → i < length (places k l) → get_or (places k l) i 0 < length order
  place_below zero l i m = absurd (omega (arith, m))
  place_below (suc k) l zero m = (all k (omega (arith, l))).1
  place_below (suc k) l (suc i) m = place_below k (omega (arith, l)) i (omega (arith, m))

  place_value : (k : ℕ) (l : k ≤ n) (i : ℕ) → i < length (places k l) → get_or order (get_or (places k l) i 0) 0 + i + 1 ≡ k
  place_value zero l i m = absurd (omega (arith, m))
  place_value (suc k) l zero m =
      let c = all k (omega (arith, l)) in
      let is : get_or order c.0 0 ≡ k = get_or_default order c.0 0 k c.1 ∙ c.2 in
      omega (arith, is)
  place_value (suc k) l (suc i) m = let r = place_value k (omega (arith, l)) i (omega (arith, m)) in omega (arith, r)

  as_many : n ≤ length order
  as_many =
      let full : n ≤ n = omega arith in
      let few = at_most (length order) (places n full) (λ i j lt l e.
      let one = place_value n full i (omega (arith, lt, l)) in
      let other = place_value n full j l in
      let same = ap (λ p. get_or order p 0) e in
      omega (arith, one, other, same, lt)) (place_below n full) in
      omega (arith, few, places_length n full)

-- where no rule on headings is broken, it is as long as the table
pub long : (given : List Source) (order : List ℕ) → AllHold given (walk given) → IsOrder (graph_of given) [] order → length order ≡ length given + 7
long given order holds is =
    let graph = graph_of given in
    omega (arith, as_many (length graph) order (whole given order holds is), at_most (length graph) order (order_apart graph order is) (order_within graph order is), graph_length given)

-- ---- ids by numbers

pub are_ids : (n : ℕ) (order ids : List ℕ) → length ids ≡ n → ((class : ℕ) → class < n → Contains order class) → ((k : ℕ) → k < length order → get_or ids (get_or order k 0) 0 ≡ k) → AreIds order ids
are_ids n order ids long all set number l =
    let c = all number (omega (arith, l, long)) in
    let at : get_or order c.0 0 ≡ number = get_or_default order c.0 0 number c.1 ∙ c.2 in
    let id : id_in ids number ≡ c.0 = ap (λ x. get_or ids x 0) (sym at) ∙ set c.0 c.1 in
    subst (λ k. IsId order number k) (sym id) (there order c.0 c.1 ∙ ap (λ x. Some x) at)
  where
    there : (xs : List ℕ) (i : ℕ) → i < length xs → slice_get xs i ≡ Some (get_or xs i 0)
    there [] i m = absurd (omega (arith, m))
    there (x ∷ xs) zero m = refl
    there (x ∷ xs) (suc i) m = there xs i (omega (arith, m))
