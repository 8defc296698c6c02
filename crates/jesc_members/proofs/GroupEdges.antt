-- Graphs and the same with their edges turned round.
use Rattle.std.proofs.Common.{◌≡◌, ◌↔◌, ℕ, zero, suc, ◌+◌, ◌<◌, ◌≤◌, List, [], ◌∷◌, ◌++◌, length, get_or, take, ◌⊎◌, inl, inr, refl, ap, sym, ◌∙◌, subst, arith}
use Rattle.std.proofs.Math.ListN.{set}
use Rattle.std.specs.List.{Contains}
use Rattle.std.proofs.lemmas.List.{get_or_default, get_or-set_same, get_or-set_other, length-set, take_all, take_more}
use Rattle.std.proofs.lemmas.List.Elements.{Contains-append_left, Contains-push, Contains-push_cases}
use Rattle.jesc_classes.specs.Order.{Graph, supers, Above, direct, further, IsWithin}
use Rattle.jesc_members.specs.GroupTables.{IsReverse}

-- ---- rows

pub beyond : (graph : Graph) (a : ℕ) → length graph ≤ a → supers graph a ≡ []
beyond [] a l = refl
beyond (x ∷ xs) zero l = absurd (omega (arith, l))
beyond (x ∷ xs) (suc a) l = beyond xs a (omega (arith, l))

nothing : {X : Type 0} (q : X) → Contains [] q → ⊥
nothing q c = absurd (omega (arith, c.1))

less_or_not : (a b : ℕ) → (a < b) ⊎ (b ≤ a)
less_or_not a zero = inr (omega arith)
less_or_not zero (suc b) = inl (omega arith)
less_or_not (suc a) (suc b) = elim (less_or_not a b) [ inl l ↦ inl (omega (arith, l)) | inr l ↦ inr (omega (arith, l)) ]

same_or_not : (a b : ℕ) → (a ≡ b) ⊎ (a ≡ b → ⊥)
same_or_not zero zero = inl refl
same_or_not zero (suc b) = inr (λ e. omega (arith, e))
same_or_not (suc a) zero = inr (λ e. omega (arith, e))
same_or_not (suc a) (suc b) = elim (same_or_not a b) [ inl e ↦ inl (ap suc e) | inr n ↦ inr (λ e. n (omega (arith, e))) ]

-- what has a row with an item is in the graph
pub in_graph : (graph : Graph) (a q : ℕ) → Contains (supers graph a) q → a < length graph
in_graph graph a q c = elim (less_or_not a (length graph)) [
  | inl l ↦ l
  | inr l ↦ absurd (nothing q (subst (λ ys. Contains ys q) (beyond graph a l) c))
]

pub within_from : (graph : Graph) → ((a q : ℕ) → Contains (supers graph a) q → q < length graph) → IsWithin graph
within_from graph f = λ a d l. λ i e k.
    let row = get_or graph a d in
    f a (get_or row i e) (subst (λ ys. Contains ys (get_or row i e)) (get_or_default graph a d [] l) (i, k, get_or_default row i (get_or row i e) e k))

-- ---- one item to each of some rows

abbrev pub AddsTo : Graph → Graph → List ℕ → ℕ → Type 0
AddsTo old new places item = (f g : ℕ) → Contains (supers new g) f ↔ (Contains (supers old g) f ⊎ (Contains places g × (f ≡ item)))

pub record IsAddingTo (places : List ℕ) (taken item : ℕ) (old new : Graph) : Type 0 where
  pub count : length new ≡ length old
  pub each : AddsTo old new (take taken places) item

pub adding_to_more : (places : List ℕ) (taken item p : ℕ) (old rows new : Graph) (row : List ℕ) → IsAddingTo places taken item old rows → taken < length places → get_or places taken 0 ≡ p → p < length rows → row ≡ supers rows p ++ item ∷ [] → new ≡ set rows p row
    → IsAddingTo places (taken + 1) item old new
adding_to_more places taken item p old rows new row is l at lp row_is e = subst (IsAddingTo places (taken + 1) item old) (sym e) (record {
  count = length-set rows p row ∙ is.count;
  each = λ f g. by f g (same_or_not g p);
})
  where
    longer : take (taken + 1) places ≡ take taken places ++ p ∷ []
    longer = take_more places taken 0 l ∙ ap (λ y. take taken places ++ y ∷ []) at

    one : (f : ℕ) → Contains (supers rows p ++ item ∷ []) f ↔ (Contains (supers old p) f ⊎ (Contains (take taken places ++ p ∷ []) p × (f ≡ item)))
    one f = (
      (λ c. elim (Contains-push_cases (supers rows p) item f c) [
        | inl k ↦ elim ((is.each f p).0 k) [ inl o ↦ inl o | inr t ↦ inr (Contains-append_left (take taken places) (p ∷ []) p t.0, t.1) ]
        | inr i ↦ inr (Contains-push (take taken places) p, sym i)
      ]),
      (λ t. elim t [
        | inl o ↦ Contains-append_left (supers rows p) (item ∷ []) f ((is.each f p).1 (inl o))
        | inr h ↦ subst (Contains (supers rows p ++ item ∷ [])) (sym h.1) (Contains-push (supers rows p) item)
      ]),
    )

    here : (f : ℕ) → Contains (supers (set rows p row) p) f ↔ (Contains (supers old p) f ⊎ (Contains (take (taken + 1) places) p × (f ≡ item)))
    here f =
        subst (λ ys. Contains ys f ↔ (Contains (supers old p) f ⊎ (Contains (take (taken + 1) places) p × (f ≡ item)))) (sym (get_or-set_same rows p row [] lp ∙ row_is))
        (subst (λ ts. Contains (supers rows p ++ item ∷ []) f ↔ (Contains (supers old p) f ⊎ (Contains ts p × (f ≡ item)))) (sym longer) (one f))

    other : (f g : ℕ) → (g ≡ p → ⊥) → Contains (supers rows g) f ↔ (Contains (supers old g) f ⊎ (Contains (take (taken + 1) places) g × (f ≡ item)))
    other f g n = (
      (λ c. elim ((is.each f g).0 c) [ inl o ↦ inl o | inr t ↦ inr (subst (λ ts. Contains ts g) (sym longer) (Contains-append_left (take taken places) (p ∷ []) g t.0), t.1) ]),
      (λ t. elim t [
        | inl o ↦ (is.each f g).1 (inl o)
        | inr h ↦ elim (Contains-push_cases (take taken places) p g (subst (λ ts. Contains ts g) longer h.0)) [
          | inl k ↦ (is.each f g).1 (inr (k, h.1))
          | inr i ↦ absurd (n (sym i))
        ]
      ]),
    )

    by : (f g : ℕ) → (g ≡ p) ⊎ (g ≡ p → ⊥) → Contains (supers (set rows p row) g) f ↔ (Contains (supers old g) f ⊎ (Contains (take (taken + 1) places) g × (f ≡ item)))
    by f g (inl i) = subst (λ x. Contains (supers (set rows p row) x) f ↔ (Contains (supers old x) f ⊎ (Contains (take (taken + 1) places) x × (f ≡ item)))) (sym i) (here f)
    by f g (inr n) = subst (λ ys. Contains ys f ↔ (Contains (supers old g) f ⊎ (Contains (take (taken + 1) places) g × (f ≡ item)))) (sym (get_or-set_other rows p g row [] n)) (other f g n)

pub all_added : (places : List ℕ) (taken item : ℕ) (old new : Graph) → IsAddingTo places taken item old new → length places ≤ taken → AddsTo old new places item
all_added places taken item old new is l = subst (λ ts. AddsTo old new ts item) (take_all taken places l) is.each

-- ---- all edges turned round

pub record IsTurning (graph : Graph) (done : ℕ) (rows : Graph) : Type 0 where
  pub count : length rows ≡ length graph
  pub each : (f g : ℕ) → Contains (supers rows g) f ↔ ((f < done) × Contains (supers graph f) g)

pub turning_more : (graph : Graph) (done : ℕ) (rows new : Graph) (places : List ℕ) (item : ℕ) → IsTurning graph done rows → places ≡ supers graph done → item ≡ done → length new ≡ length rows → AddsTo rows new places item → IsTurning graph (done + 1) new
turning_more graph done rows new places item is row i count adds = record {
  count = count ∙ is.count;
  each = λ f g. (
    (λ c. elim ((adds f g).0 c) [
      | inl o ↦ (let k = (is.each f g).0 o in (omega (arith, k.0), k.1))
      | inr t ↦ (omega (arith, t.1, i), subst (λ x. Contains (supers graph x) g) (sym (t.1 ∙ i)) (subst (λ ys. Contains ys g) row t.0))
    ]),
    (λ t. elim (same_or_not f done) [
      | inl e ↦ (adds f g).1 (inr (subst (λ ys. Contains ys g) (sym row) (subst (λ x. Contains (supers graph x) g) e t.1), e ∙ sym i))
      | inr n ↦ (adds f g).1 (inl ((is.each f g).1 (omega (arith, t.0, n), t.1)))
    ]),
  );
}

pub all_turned : (graph : Graph) (done : ℕ) (rows : Graph) → IsTurning graph done rows → length graph ≤ done → IsReverse graph rows
all_turned graph done rows is l = record {
  count = is.count;
  each = λ f g. (
    (λ c. ((is.each f g).0 c).1),
    (λ c. let k = in_graph graph f g c in (is.each f g).1 (omega (arith, k, l), c)),
  );
}

-- ---- what is above in each

further_on : (graph : Graph) {a b : ℕ} → Above graph a b → (c : ℕ) → Contains (supers graph b) c → Above graph a c
further_on graph (direct a b h) c k = further a b c h (direct b c k)
further_on graph (further a b d h rest) c k = further a b c h (further_on graph rest c k)

pub turned : (graph reverse : Graph) → IsReverse graph reverse → {f g : ℕ} → Above graph f g → Above reverse g f
turned graph reverse is (direct f g c) = direct g f ((is.each f g).1 c)
turned graph reverse is (further f b g c rest) = further_on reverse (turned graph reverse is rest) f ((is.each f b).1 c)

pub turned_back : (graph reverse : Graph) → IsReverse graph reverse → {g f : ℕ} → Above reverse g f → Above graph f g
turned_back graph reverse is (direct g f c) = direct f g ((is.each f g).0 c)
turned_back graph reverse is (further g b f c rest) = further_on graph (turned_back graph reverse is rest) g ((is.each b g).0 c)

pub reverse_within : (graph reverse : Graph) → IsReverse graph reverse → IsWithin reverse
reverse_within graph reverse is = within_from reverse (λ g f c. let k = in_graph graph f g ((is.each f g).0 c) in omega (arith, k, is.count))

-- ---- above itself

-- none of the first so many above it leads back
abbrev pub NoneBack : Graph → ℕ → List ℕ → Type 0
NoneBack graph n xs = (q : ℕ) → Contains xs q → (q ≡ n) ⊎ Above graph q n → ⊥

pub none_back_more : (graph : Graph) (n : ℕ) (xs : List ℕ) (i : ℕ) → i < length xs → NoneBack graph n (take i xs) → ((get_or xs i 0 ≡ n) ⊎ Above graph (get_or xs i 0) n → ⊥) → NoneBack graph n (take (i + 1) xs)
none_back_more graph n xs i l before one q c t = elim (Contains-push_cases (take i xs) (get_or xs i 0) q (subst (λ ys. Contains ys q) (take_more xs i 0 l) c)) [
  | inl k ↦ before q k t
  | inr e ↦ one (subst (λ x. (x ≡ n) ⊎ Above graph x n) (sym e) t)
]

pub not_itself : (graph : Graph) (n : ℕ) (xs : List ℕ) (i : ℕ) → xs ≡ supers graph n → length xs ≤ i → NoneBack graph n (take i xs) → Above graph n n → ⊥
not_itself graph n xs i is l none a = by a refl refl
  where
    all : NoneBack graph n (supers graph n)
    all = subst (NoneBack graph n) (take_all i xs l ∙ is) none

    by : {c d : ℕ} → Above graph c d → c ≡ n → d ≡ n → ⊥
    by (direct c d h) e f = all d (subst (λ x. Contains (supers graph x) d) e h) (inl f)
    by (further c s d h r) e f = all s (subst (λ x. Contains (supers graph x) s) e h) (inr (subst (Above graph s) f r))

pub itself : (graph : Graph) (n : ℕ) (xs : List ℕ) (i : ℕ) → xs ≡ supers graph n → i < length xs → (get_or xs i 0 ≡ n) ⊎ Above graph (get_or xs i 0) n → Above graph n n
itself graph n xs i is l t =
    let x = get_or xs i 0 in
    let c : Contains (supers graph n) x = subst (λ ys. Contains ys x) is (i, l, get_or_default xs i x 0 l) in
    elim t [ inl e ↦ direct n n (subst (Contains (supers graph n)) e c) | inr a ↦ further n x n c a ]
