-- Every class gets an id exactly where no class is its own supertype.
use Rattle.std.proofs.Common.{◌≡◌, ◌↔◌, ℕ, zero, suc, ◌+◌, ◌<◌, ◌≤◌, Bool, true, false, ◌||◌, List, [], ◌∷◌, ◌++◌, length, get_or, ◌⊎◌, inl, inr, refl, ap, sym, ◌∙◌, subst, arith, eqb-true, eq-eqb, ltb-true, ltb-false, nat_lt, nat_eq, true≢false, length-append}
use Rattle.std.proofs.Math.ListN.{get_or-append}
use Rattle.std.proofs.Math.Seq.{get_or-append_seam}
use Rattle.std.proofs.lemmas.Map.Steps.{length-le_from_distinct_below}
use Rattle.std.proofs.lemmas.List.Elements.{All-push}
use Rattle.std.specs.List.{All, AllByRecursion, Contains, IsDistinct, list_any}
use Rattle.jesc_classes.specs.Order.{Graph, supers, Above, direct, further, IsAcyclic, IsReady, IsOrder, ended, next, IsWhole, IsWithin}

-- ---- lists of numbers

pub same : (q x : ℕ) → (q ≡ x) ⊎ (q ≡ x → ⊥)
same q x = by (nat_eq q x) refl
  where
    by : (b : Bool) → nat_eq q x ≡ b → (q ≡ x) ⊎ (q ≡ x → ⊥)
    by true e = inl (eqb-true q x e)
    by false e = inr (λ h. true≢false (sym (eq-eqb q x h) ∙ e))

at_all : {X : Type 0} (P : X → Type 0) (xs : List X) (x : X) → All P xs → Contains xs x → P x
at_all P xs x all c = subst P c.2 (all c.0 x c.1)

pub later : (x : ℕ) (xs : List ℕ) (q : ℕ) → Contains xs q → Contains (x ∷ xs) q
later x xs q c = (suc c.0, omega (arith, c.1), c.2)

pub here : (x : ℕ) (xs : List ℕ) → Contains (x ∷ xs) x
here x xs = (0, omega arith, refl)

pub first_or_later : (x : ℕ) (xs : List ℕ) (q : ℕ) → Contains (x ∷ xs) q → (x ≡ q) ⊎ Contains xs q
first_or_later x xs q (zero, l, e) = inl e
first_or_later x xs q (suc i, l, e) = inr (i, omega (arith, l), e)

is_in : (xs : List ℕ) (q : ℕ) → Contains xs q ⊎ (Contains xs q → ⊥)
is_in [] q = inr (λ c. absurd (omega (arith, c.1)))
is_in (x ∷ xs) q = elim (same x q) [
  | inl e ↦ inl (0, omega arith, e)
  | inr n ↦ elim (is_in xs q) [
    | inl c ↦ inl (later x xs q c)
    | inr m ↦ inr (λ c. elim (first_or_later x xs q c) [ inl e ↦ n e | inr k ↦ m k ])
  ]
]

all_or_missing : (done xs : List ℕ) → All (Contains done) xs ⊎ ((s : ℕ) × Contains xs s × (Contains done s → ⊥))
all_or_missing done [] = inl (λ k d l. absurd (omega (arith, l)))
all_or_missing done (x ∷ xs) = elim (is_in done x) [
  | inr n ↦ inr (x, here x xs, n)
  | inl c ↦ elim (all_or_missing done xs) [
    | inl all ↦ inl (cons c all)
    | inr m ↦ inr (m.0, later x xs m.0 m.1, m.2)
  ]
]
  where
    cons : Contains done x → All (Contains done) xs → All (Contains done) (x ∷ xs)
    cons c all zero d l = c
    cons c all (suc k) d l = all k d (omega (arith, l))

pub any_default : (xs : List ℕ) (k d e : ℕ) → k < length xs → get_or xs k d ≡ get_or xs k e
any_default [] k d e l = absurd (omega (arith, l))
any_default (x ∷ xs) zero d e l = refl
any_default (x ∷ xs) (suc k) d e l = any_default xs k d e (omega (arith, l))

beyond : (graph : Graph) (a : ℕ) → length graph ≤ a → supers graph a ≡ []
beyond [] a l = refl
beyond (x ∷ xs) zero l = absurd (omega (arith, l))
beyond (x ∷ xs) (suc a) l = beyond xs a (omega (arith, l))

found : (xs : List ℕ) (q : ℕ) → list_any (nat_eq q) xs ≡ true → Contains xs q
found [] q h = absurd (true≢false (sym h))
found (x ∷ xs) q h = by (nat_eq q x) refl h (λ k. found xs q k)
  where
    by : (b : Bool) → nat_eq q x ≡ b → list_any (nat_eq q) (x ∷ xs) ≡ true → (list_any (nat_eq q) xs ≡ true → Contains xs q) → Contains (x ∷ xs) q
    by true e k rest = (0, omega arith, sym (eqb-true q x e))
    by false e k rest = later x xs q (rest (subst (λ b. (b || list_any (nat_eq q) xs) ≡ true) e k))

on_above : (graph : Graph) (a b c : ℕ) → Above graph a b → Contains (supers graph b) c → Above graph a c
on_above graph a b c (direct d e h) m = further d e c h (direct e c m)
on_above graph a b c (further d e f h r) m = further d e c h (on_above graph e f c r m)

pub nothing : (q : ℕ) → Contains [] q → ⊥
nothing q c = absurd (omega (arith, c.1))

-- ---- where no class is its own supertype, every class gets an id

module _ (graph : Graph) (done : List ℕ) (within : IsWithin graph) (acyclic : IsAcyclic graph) (stops : (class : ℕ) → IsReady graph done class → ⊥) where
  -- classes without ids, each a supertype of those behind it
  record Chain (head : ℕ) (tail : List ℕ) : Type 0 where
    pub distinct : IsDistinct nat_eq (head ∷ tail)
    pub below : (q : ℕ) → Contains (head ∷ tail) q → q < length graph
    pub waits : Contains done head → ⊥
    pub above : (q : ℕ) → Contains tail q → Above graph q head

  apart : (s : ℕ) (xs : List ℕ) → ((q : ℕ) → Contains xs q → Above graph q s) → AllByRecursion (λ y. nat_eq s y ≡ false) xs
  apart s [] f = tt
  apart s (x ∷ xs) f = (by (nat_eq s x) refl, apart s xs (λ q c. f q (later x xs q c)))
    where
      by : (b : Bool) → nat_eq s x ≡ b → nat_eq s x ≡ false
      by true e = absurd (acyclic s (subst (λ y. Above graph y s) (sym (eqb-true s x e)) (f x (here x xs))))
      by false e = e

  grow : (head : ℕ) (tail : List ℕ) → Chain head tail → (s : ℕ) × Chain s (head ∷ tail)
  unfolding IsDistinct
  grow head tail chain = elim (all_or_missing done (supers graph head)) [
    | inl all ↦ absurd (stops head record { given = chain.below head (here head tail); waits = chain.waits; above = all })
    | inr m ↦ (m.0, longer m.0 m.1 m.2)
  ]
    where
      longer : (s : ℕ) → Contains (supers graph head) s → (Contains done s → ⊥) → Chain s (head ∷ tail)
      longer s h n = let up : (q : ℕ) → Contains (head ∷ tail) q → Above graph q s = λ q c. elim (first_or_later head tail q c) [
        | inl e ↦ subst (λ x. Above graph x s) e (direct head s h)
        | inr k ↦ on_above graph q head s (chain.above q k) h
      ] in record {
        distinct = (apart s (head ∷ tail) up, chain.distinct);
        below = λ q c. elim (first_or_later s (head ∷ tail) q c) [
          | inl e ↦ subst (λ x. x < length graph) e (at_all (λ x. x < length graph) (supers graph head) s (within head [] (chain.below head (here head tail))) h)
          | inr k ↦ chain.below q k
        ];
        waits = n;
        above = up;
      }

  long : (n head : ℕ) (tail : List ℕ) → Chain head tail → (h : ℕ) × (t : List ℕ) × Chain h t × (length t ≡ length tail + n)
  long zero head tail chain = (head, tail, chain, omega arith)
  long (suc n) head tail chain =
      let g = grow head tail chain in
      let r = long n g.0 (head ∷ tail) g.1 in
      (r.0, r.1, r.2, omega (arith, r.3))

  pub none_waits : (class : ℕ) → class < length graph → (Contains done class → ⊥) → ⊥
  unfolding IsDistinct
  none_waits class l n =
      let start : Chain class [] = record {
        distinct = (tt, tt);
        below = λ q c. elim (first_or_later class [] q c) [ inl e ↦ subst (λ x. x < length graph) e l | inr k ↦ absurd (omega (arith, k.1)) ];
        waits = n;
        above = λ q c. absurd (omega (arith, c.1));
      } in
      let r = long (length graph) class [] start in
      let few = length-le_from_distinct_below (r.0 ∷ r.1) (length graph) r.2.distinct (λ q h. r.2.below q (found (r.0 ∷ r.1) q h)) in
      omega (arith, few, r.3)

-- ---- where every class has an id, no class is its own supertype

-- the supertypes of each stand before it
abbrev pub ParentsFirst : Graph → List ℕ → Type 0
ParentsFirst graph order = (i : ℕ) → i < length order → (s : ℕ) → Contains (supers graph (get_or order i 0)) s → (j : ℕ) × (j < i) × (get_or order j 0 ≡ s)

one_more : (graph : Graph) (done : List ℕ) (class : ℕ) → IsReady graph done class → ParentsFirst graph done → ParentsFirst graph (done ++ class ∷ [])
one_more graph done class ready first i l s m = by (same i (length done))
  where
    kept : (j : ℕ) → j < length done → get_or (done ++ class ∷ []) j 0 ≡ get_or done j 0
    kept j k = get_or-append done (class ∷ []) 0 j k

    old : i < length done → (j : ℕ) × (j < i) × (get_or (done ++ class ∷ []) j 0 ≡ s)
    old k = let r = first i k s (subst (λ x. Contains (supers graph x) s) (kept i k) m) in (r.0, r.1, kept r.0 (omega (arith, r.1, k)) ∙ r.2)

    new : i ≡ length done → (j : ℕ) × (j < i) × (get_or (done ++ class ∷ []) j 0 ≡ s)
    new e =
        let is_class = ap (λ x. get_or (done ++ class ∷ []) x 0) e ∙ get_or-append_seam done class [] 0 in
        let c = at_all (Contains done) (supers graph class) s ready.above (subst (λ x. Contains (supers graph x) s) is_class m) in
        (c.0, omega (arith, c.1, e), kept c.0 c.1 ∙ any_default done c.0 0 s c.1 ∙ c.2)

    by : (i ≡ length done) ⊎ (i ≡ length done → ⊥) → (j : ℕ) × (j < i) × (get_or (done ++ class ∷ []) j 0 ≡ s)
    by (inl e) = new e
    by (inr n) = old (omega (arith, l, length-append done (class ∷ []), n))

pub parents_first : (graph : Graph) (done order : List ℕ) → IsOrder graph done order → ParentsFirst graph done → ParentsFirst graph order
parents_first graph done order (ended d stops) first = first
parents_first graph done order (next d o class n rest) first = parents_first graph (d ++ class ∷ []) o rest (one_more graph d class n.ready first)

climb : (graph : Graph) (order : List ℕ) → ParentsFirst graph order → (a b i : ℕ) → Above graph a b → i < length order → get_or order i 0 ≡ a → (j : ℕ) × (j < i) × (get_or order j 0 ≡ b)
climb graph order first a b i (direct c d h) l e = first i l d (subst (λ x. Contains (supers graph x) d) (sym e) h)
climb graph order first a b i (further c d f h r) l e =
    let p = first i l d (subst (λ x. Contains (supers graph x) d) (sym e) h) in
    let q = climb graph order first d f p.0 r (omega (arith, p.1, l)) p.2 in
    (q.0, omega (arith, q.1, p.1), q.2)

no_round : (n : ℕ) (graph : Graph) (order : List ℕ) → ParentsFirst graph order → (a i : ℕ) → i < n → i < length order → get_or order i 0 ≡ a → Above graph a a → ⊥
no_round zero graph order first a i k l e r = absurd (omega (arith, k))
no_round (suc n) graph order first a i k l e r =
    let p = climb graph order first a a i r l e in
    no_round n graph order first a p.0 (omega (arith, p.1, k)) (omega (arith, p.1, l)) p.2 r

is_class : (graph : Graph) (a b : ℕ) → Above graph a b → a < length graph
is_class graph a b r = by (nat_lt a (length graph)) refl (first r)
  where
    first : Above graph a b → (s : ℕ) × Contains (supers graph a) s
    first (direct c d h) = (d, h)
    first (further c d e h s) = (d, h)

    by : (t : Bool) → nat_lt a (length graph) ≡ t → (s : ℕ) × Contains (supers graph a) s → a < length graph
    by true e m = ltb-true a (length graph) e
    by false e m = absurd (nothing m.0 (subst (λ xs. Contains xs m.0) (beyond graph a (ltb-false a (length graph) e)) m.1))

-- ---- no class gets two ids

-- the entries are different classes
pub record AreClasses (graph : Graph) (order : List ℕ) : Type 0 where
  pub distinct : IsDistinct nat_eq order
  pub below : All (λ class. class < length graph) order

unequal : (x y : ℕ) → (x ≡ y → ⊥) → nat_eq x y ≡ false
unequal x y n = by (nat_eq x y) refl
  where
    by : (b : Bool) → nat_eq x y ≡ b → nat_eq x y ≡ false
    by true e = absurd (n (eqb-true x y e))
    by false e = e

apart-push : (x : ℕ) (xs : List ℕ) (y : ℕ) → AllByRecursion (λ z. nat_eq x z ≡ false) xs → (x ≡ y → ⊥) → AllByRecursion (λ z. nat_eq x z ≡ false) (xs ++ y ∷ [])
apart-push x [] y a n = (unequal x y n, tt)
apart-push x (z ∷ zs) y a n = (a.0, apart-push x zs y a.1 n)

distinct-push : (xs : List ℕ) (y : ℕ) → IsDistinct nat_eq xs → (Contains xs y → ⊥) → IsDistinct nat_eq (xs ++ y ∷ [])
unfolding IsDistinct
distinct-push [] y d n = (tt, tt)
distinct-push (x ∷ xs) y d n = (apart-push x xs y d.0 (λ e. n (0, omega arith, e)), distinct-push xs y d.1 (λ c. n (later x xs y c)))

pub one_class_more : (graph : Graph) (done : List ℕ) (class : ℕ) → IsReady graph done class → AreClasses graph done → AreClasses graph (done ++ class ∷ [])
one_class_more graph done class ready are = record {
  distinct = distinct-push done class are.distinct ready.waits;
  below = All-push (λ x. x < length graph) done class are.below ready.given;
}

pub no_classes : (graph : Graph) → AreClasses graph []
unfolding IsDistinct
no_classes graph = record { distinct = tt; below = λ k d l. absurd (omega (arith, l)) }

classes_from : (graph : Graph) (done order : List ℕ) → IsOrder graph done order → AreClasses graph done → AreClasses graph order
classes_from graph done order (ended d stops) are = are
classes_from graph done order (next d o class n rest) are = classes_from graph (d ++ class ∷ []) o rest (one_class_more graph d class n.ready are)

pub are_classes : (graph : Graph) (order : List ℕ) → IsOrder graph [] order → AreClasses graph order
are_classes graph order is_order = classes_from graph [] order is_order (no_classes graph)

pub few_classes : (graph : Graph) (order : List ℕ) → AreClasses graph order → length order ≤ length graph
few_classes graph order are = length-le_from_distinct_below order (length graph) are.distinct (λ q h. at_all (λ x. x < length graph) order q are.below (found order q h))

-- ---- both

end_of : (graph : Graph) (done order : List ℕ) → IsOrder graph done order → (class : ℕ) → IsReady graph order class → ⊥
end_of graph done order (ended d stops) = stops
end_of graph done order (next d o class n rest) = end_of graph (d ++ class ∷ []) o rest

pub whole_exactly_acyclic : (graph : Graph) (order : List ℕ) → IsWithin graph → IsOrder graph [] order → IsWhole graph order ↔ IsAcyclic graph
whole_exactly_acyclic graph order within is_order = (forward, back)
  where
    first : ParentsFirst graph order
    first = parents_first graph [] order is_order (λ i l s m. absurd (omega (arith, l)))

    forward : IsWhole graph order → IsAcyclic graph
    forward whole a r =
        let c = whole a (is_class graph a a r) in
        no_round (suc c.0) graph order first a c.0 (omega arith) c.1 (any_default order c.0 0 a c.1 ∙ c.2) r

    back : IsAcyclic graph → IsWhole graph order
    back acyclic class l = elim (is_in order class) [
      | inl c ↦ c
      | inr n ↦ absurd (none_waits graph order within acyclic (end_of graph [] order is_order) class l n)
    ]
