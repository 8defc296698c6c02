-- Which classes may be thrown, one after another in an order with supertypes first.
use Rattle.std.proofs.Common.{◌≡◌, ◌↔◌, ℕ, zero, suc, ◌+◌, ◌<◌, ◌≤◌, ◌||◌, Bool, true, false, true≢false, nat_eq, eqb-true, eq-eqb, List, [], ◌∷◌, length, get_or, ◌⊎◌, inl, inr, refl, ap, sym, ◌∙◌, subst, arith}
use Rattle.std.proofs.Math.ListN.{set}
use Rattle.std.specs.List.{All, Contains, list_any}
use Rattle.std.proofs.lemmas.List.{get_or_default, get_or-set_same, get_or-set_other, length-set}
use Rattle.std.proofs.lemmas.List.Elements.{All-contains, All-get_or}
use Rattle.jesc_classes.specs.Order.{Graph, supers, Above, direct, further}
use Rattle.jesc_lookup.specs.Numbering.{IsArranged}
use Rattle.jesc_member_rules.specs.Throwables.{AreThrowables}

abbrev pub IsThrown : Graph → ℕ → Type 0
IsThrown graph class = (class ≡ 1) ⊎ Above graph class 1

abbrev pub Says : Graph → List Bool → ℕ → Type 0
Says graph marks class = (get_or marks class false ≡ true) ↔ IsThrown graph class

-- the marks of the first so many classes of the order are right
pub record AreThrown (graph : Graph) (order : List ℕ) (done : ℕ) (marks : List Bool) : Type 0 where
  pub count : length marks ≡ length graph
  pub each : (i : ℕ) → i < done → Says graph marks (get_or order i 0)

split : (i k : ℕ) → i < k + 1 → (i < k) ⊎ (i ≡ k)
split zero zero h = inr refl
split zero (suc k) h = inl (omega arith)
split (suc i) zero h = absurd (omega arith)
split (suc i) (suc k) h = elim (split i k (omega arith)) [ inl l ↦ inl (omega (arith, l)) | inr e ↦ inr (ap suc e) ]

-- ---- one of a list has a mark

some_marked : (marks : List Bool) (xs : List ℕ) → list_any (λ x. get_or marks x false) xs ≡ true → (s : ℕ) × Contains xs s × (get_or marks s false ≡ true)
some_marked marks [] e = absurd (true≢false (sym e))
some_marked marks (x ∷ xs) e = by (get_or marks x false) refl e (some_marked marks xs)
  where
    by : (b : Bool) → get_or marks x false ≡ b → (b || list_any (λ y. get_or marks y false) xs) ≡ true → (list_any (λ y. get_or marks y false) xs ≡ true → (s : ℕ) × Contains xs s × (get_or marks s false ≡ true))
        → (s : ℕ) × Contains (x ∷ xs) s × (get_or marks s false ≡ true)
    by true is e rest = (x, (0, omega arith, refl), is)
    by false is e rest = let r = rest e in (r.0, (suc r.1.0, omega (arith, r.1.1), r.1.2), r.2)

or_true : (b : Bool) → (b || true) ≡ true
or_true true = refl
or_true false = refl

marked_some : (marks : List Bool) (xs : List ℕ) (s : ℕ) → Contains xs s → get_or marks s false ≡ true → list_any (λ x. get_or marks x false) xs ≡ true
marked_some marks [] s c is = absurd (omega (arith, c.1))
marked_some marks (x ∷ xs) s (zero, l, e) is = ap (λ b. b || list_any (λ y. get_or marks y false) xs) (ap (λ y. get_or marks y false) e ∙ is)
marked_some marks (x ∷ xs) s (suc k, l, e) is = ap (λ b. get_or marks x false || b) (marked_some marks xs s (k, omega (arith, l), e) is) ∙ or_true (get_or marks x false)

-- ---- one class more

module _ (graph : Graph) (order : List ℕ) (arranged : IsArranged graph order) (done : ℕ) (marks : List Bool) (thrown : AreThrown graph order done marks) (l : done < length order) where
  abbrev class : ℕ
  class = get_or order done 0

  pub in_graph : class < length graph
  in_graph = arranged.below done l

  -- the class's supertypes are among the classes done
  above_done : (s : ℕ) → Contains (supers graph class) s → Says graph marks s
  above_done s c =
      let row = All-get_or (λ r. All (λ q. q < length graph) r) graph class [] in_graph arranged.within in
      let at = arranged.whole s (All-contains (λ q. q < length graph) (supers graph class) s row c) in
      let is = get_or_default order at.0 0 s at.1 ∙ at.2 in
      let before = arranged.first done at.0 l at.1 (subst (λ x. Contains (supers graph class) x) (sym is) c) in
      subst (Says graph marks) is (thrown.each at.0 before)

  up : Above graph class 1 → (s : ℕ) × Contains (supers graph class) s × IsThrown graph s
  up a = by a refl refl
    where
      by : {c d : ℕ} → Above graph c d → c ≡ class → d ≡ 1 → (s : ℕ) × Contains (supers graph class) s × IsThrown graph s
      by (direct c d h) e f = (d, subst (λ x. Contains (supers graph x) d) e h, inl f)
      by (further c s d h r) e f = (s, subst (λ x. Contains (supers graph x) s) e h, inr (subst (Above graph s) f r))

  pub any_says : (list_any (λ x. get_or marks x false) (supers graph class) ≡ true) ↔ Above graph class 1
  any_says = (
    (λ e. let r = some_marked marks (supers graph class) e in elim ((above_done r.0 r.1).0 r.2) [
      | inl is ↦ direct class 1 (subst (λ x. Contains (supers graph class) x) is r.1)
      | inr a ↦ further class r.0 1 r.1 a
    ]),
    (λ a. let r = up a in marked_some marks (supers graph class) r.0 r.1 ((above_done r.0 r.1).1 r.2)),
  )

  pub one_thrown : (b : Bool) → (b ≡ true) ↔ IsThrown graph class → (new : List Bool) → new ≡ set marks class b → AreThrown graph order (done + 1) new
  one_thrown b says new e = subst (AreThrown graph order (done + 1)) (sym e) (record {
    count = length-set marks class b ∙ thrown.count;
    each = λ i k. elim (split i done k) [
      | inl less ↦ subst (λ (m : Bool). (m ≡ true) ↔ IsThrown graph (get_or order i 0)) (sym (get_or-set_other marks class (get_or order i 0) b false (λ f. arranged.apart i done less l f))) (thrown.each i less)
      | inr same ↦ subst (λ j. Says graph (set marks class b) (get_or order j 0)) (sym same) (subst (λ (m : Bool). (m ≡ true) ↔ IsThrown graph class) (sym (get_or-set_same marks class b false (omega (arith, in_graph, thrown.count)))) says)
    ];
  })

-- a class that is found to be thrown by one of two tests
pub found_thrown : (graph : Graph) (k : ℕ) (below : Bool) → (below ≡ true) ↔ Above graph k 1 → (b : Bool) → ((below ≡ true) × (b ≡ true)) ⊎ ((below ≡ false) × (b ≡ nat_eq k 1)) → (b ≡ true) ↔ IsThrown graph k
found_thrown graph k below says b (inl h) = ((λ e. inr (says.0 h.0)), (λ t. h.1))
found_thrown graph k below says b (inr h) = (
  (λ e. inl (eqb-true k 1 (sym h.1 ∙ e))),
  (λ t. elim t [ inl e ↦ h.1 ∙ eq-eqb k 1 e | inr a ↦ absurd (true≢false (sym (says.1 a) ∙ h.0)) ]),
)

pub all_thrown : (graph : Graph) (order : List ℕ) → IsArranged graph order → (done : ℕ) (marks list : List Bool) → AreThrown graph order done marks → length order ≤ done → list ≡ marks → AreThrowables graph list
all_thrown graph order arranged done marks list thrown l e = subst (AreThrowables graph) (sym e) (record {
  count = thrown.count;
  each = λ class k. let at = arranged.whole class k in subst (Says graph marks) (get_or_default order at.0 0 class at.1 ∙ at.2) (thrown.each at.0 (omega (arith, at.1, l)));
})
