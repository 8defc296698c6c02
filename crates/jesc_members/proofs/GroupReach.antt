-- A walk over a graph with a list of what was met.
use Rattle.std.proofs.Common.{◌≡◌, ◌↔◌, ℕ, zero, suc, ◌+◌, ◌<◌, ◌≤◌, Bool, true, false, true≢false, nat_eq, eqb-true, List, [], ◌∷◌, ◌++◌, length, get_or, take, ◌⊎◌, inl, inr, refl, ap, sym, ◌∙◌, subst, arith, append_assoc, length-append}
use Rattle.std.specs.BTreeSet.{BTreeSet, contains}
use Rattle.std.specs.List.{All, Contains, IsDistinct, list_any}
use Rattle.std.specs.Ordering.{nat_cmp}
use Rattle.std.proofs.lemmas.Cmp.{nat_cmp_total, nat_eq_equiv}
use Rattle.std.proofs.lemmas.List.{get_or_default, get_or_append_left, take_more}
use Rattle.std.proofs.lemmas.List.Elements.{All-contains, All-get_or, Contains-append_left, Contains-push, Contains-push_cases}
use Rattle.std.proofs.lemmas.Map.Keys.{IsDistinct-push}
use Rattle.std.proofs.lemmas.Map.Lookups.{exact_unsigned}
use Rattle.std.proofs.lemmas.Map.Steps.{length-le_from_distinct_below}
use Rattle.std.proofs.lemmas.Map.Views.{btree_set_contains_iff, Contains-from_any}
use Rattle.jesc_classes.specs.Order.{Graph, supers, Above, direct, further, IsWithin}
use Rattle.jesc_members.specs.GroupTables.{AreSame, GoesOn}

abbrev pub Adds : List ℕ → List ℕ → ℕ → Type 0
Adds old new x = (q : ℕ) → Contains new q ↔ (Contains old q ⊎ (q ≡ x))

-- ---- sets

has : (s : BTreeSet ℕ) (q : ℕ) → (contains nat_cmp s q ≡ true) ↔ Contains s.keys q
has s q = btree_set_contains_iff nat_cmp_total exact_unsigned s q

pub had : (s : BTreeSet ℕ) (x : ℕ) → contains nat_cmp s x ≡ true → Adds s.keys s.keys x
had s x e q = ((λ c. inl c), (λ t. elim t [ inl c ↦ c | inr is ↦ subst (Contains s.keys) (sym is) ((has s x).0 e) ]))

pub is_old : (s : BTreeSet ℕ) (x : ℕ) → contains nat_cmp s x ≡ true → (false ≡ false) ↔ Contains s.keys x
is_old s x e = ((λ _. (has s x).0 e), (λ _. refl))

pub is_new : (s : BTreeSet ℕ) (x : ℕ) → contains nat_cmp s x ≡ false → (true ≡ false) ↔ Contains s.keys x
is_new s x e = ((λ f. absurd (true≢false f)), (λ c. sym ((has s x).1 c) ∙ e))

-- ---- one number more

not_among : (xs : List ℕ) (x : ℕ) → (Contains xs x → ⊥) → list_any (nat_eq x) xs ≡ false
not_among xs x n = by (list_any (nat_eq x) xs) refl
  where
    by : (b : Bool) → list_any (nat_eq x) xs ≡ b → list_any (nat_eq x) xs ≡ false
    by true e = absurd (n (Contains-from_any (λ y z h. eqb-true y z h) x xs e))
    by false e = e

-- how a list takes up a number that is new, or stays
abbrev pub TakesUp : List ℕ → List ℕ → ℕ → Type 0
TakesUp old new x = ((new ≡ old ++ x ∷ []) × (Contains old x → ⊥)) ⊎ ((new ≡ old) × Contains old x)

pub takes_up_adds : (old new : List ℕ) (x : ℕ) → TakesUp old new x → Adds old new x
takes_up_adds old new x (inl h) q = (
  (λ c. elim (Contains-push_cases old x q (subst (λ ys. Contains ys q) h.0 c)) [ inl k ↦ inl k | inr is ↦ inr (sym is) ]),
  (λ t. subst (λ ys. Contains ys q) (sym h.0) (elim t [ inl c ↦ Contains-append_left old (x ∷ []) q c | inr is ↦ subst (Contains (old ++ x ∷ [])) (sym is) (Contains-push old x) ])),
)
takes_up_adds old new x (inr h) q = (
  (λ c. inl (subst (λ ys. Contains ys q) h.0 c)),
  (λ t. subst (λ ys. Contains ys q) (sym h.0) (elim t [ inl c ↦ c | inr is ↦ subst (Contains old) (sym is) h.1 ])),
)

pub same_more : (met found new_met new_found : List ℕ) (x : ℕ) → AreSame met found → Adds met new_met x → TakesUp found new_found x → AreSame new_met new_found
same_more met found new_met new_found x are adds takes = record {
  same = λ q. (
    (λ c. (takes_up_adds found new_found x takes q).1 (elim ((adds q).0 c) [ inl k ↦ inl ((are.same q).0 k) | inr e ↦ inr e ])),
    (λ c. (adds q).1 (elim ((takes_up_adds found new_found x takes q).0 c) [ inl k ↦ inl ((are.same q).1 k) | inr e ↦ inr e ])),
  );
  once = by takes;
}
  where
    by : TakesUp found new_found x → IsDistinct nat_eq new_found
    by (inl h) = subst (λ ys. IsDistinct nat_eq ys) (sym h.0) (IsDistinct-push nat_eq_equiv found x are.once (not_among found x h.1))
    by (inr h) = subst (λ ys. IsDistinct nat_eq ys) (sym h.0) are.once

-- the first so many numbers were looked at
pub record IsAdding (numbers : List ℕ) (taken : ℕ) (begun met found : List ℕ) : Type 0 where
  pub same : AreSame met found
  pub on : GoesOn (take taken numbers) begun found

pub adding_more : (numbers : List ℕ) (taken : ℕ) (begun met found new_met new_found : List ℕ) (x : ℕ) → IsAdding numbers taken begun met found → taken < length numbers → get_or numbers taken 0 ≡ x → Adds met new_met x → TakesUp found new_found x
    → IsAdding numbers (taken + 1) begun new_met new_found
adding_more numbers taken begun met found new_met new_found x is l at adds takes = record {
  same = same_more met found new_met new_found x is.same adds takes;
  on = record {
    more = (grown takes).0;
    on = (grown takes).1;
    each = λ q. (
      (λ c. elim ((takes_up_adds found new_found x takes q).0 c) [
        | inl k ↦ elim ((is.on.each q).0 k) [
          | inl b ↦ inl b
          | inr t ↦ inr (subst (λ ys. Contains ys q) (sym longer) (Contains-append_left (take taken numbers) (x ∷ []) q t))
        ]
        | inr e ↦ inr (subst (λ ys. Contains ys q) (sym longer) (subst (Contains (take taken numbers ++ x ∷ [])) (sym e) (Contains-push (take taken numbers) x)))
      ]),
      (λ t. (takes_up_adds found new_found x takes q).1 (elim t [
        | inl b ↦ inl ((is.on.each q).1 (inl b))
        | inr c ↦ elim (Contains-push_cases (take taken numbers) x q (subst (λ ys. Contains ys q) longer c)) [
          | inl k ↦ inl ((is.on.each q).1 (inr k))
          | inr e ↦ inr (sym e)
        ]
      ])),
    );
  };
}
  where
    longer : take (taken + 1) numbers ≡ take taken numbers ++ x ∷ []
    longer = take_more numbers taken 0 l ∙ ap (λ y. take taken numbers ++ y ∷ []) at

    grown : TakesUp found new_found x → (more : List ℕ) × (new_found ≡ begun ++ more)
    grown (inl h) = (is.on.more ++ x ∷ [], h.0 ∙ ap (λ ys. ys ++ x ∷ []) is.on.on ∙ append_assoc begun is.on.more (x ∷ []))
    grown (inr h) = (is.on.more, h.0 ∙ is.on.on)

-- ---- the walk

-- of the first so many that were found, all above were found
pub record IsWalk (graph : Graph) (start done : ℕ) (met found : List ℕ) : Type 0 where
  pub same : AreSame met found
  pub above : (q : ℕ) → Contains found q → Above graph start q
  pub first : (q : ℕ) → Contains (supers graph start) q → Contains found q
  pub up : (i q : ℕ) → i < done → Contains (supers graph (get_or found i 0)) q → Contains found q
  pub within : done ≤ length found

further_on : (graph : Graph) {a b : ℕ} → Above graph a b → (c : ℕ) → Contains (supers graph b) c → Above graph a c
further_on graph (direct a b h) c k = further a b c h (direct b c k)
further_on graph (further a b d h rest) c k = further a b c h (further_on graph rest c k)

split : (i k : ℕ) → i < k + 1 → (i < k) ⊎ (i ≡ k)
split zero zero h = inr refl
split zero (suc k) h = inl (omega arith)
split (suc i) zero h = absurd (omega arith)
split (suc i) (suc k) h = elim (split i k (omega arith)) [ inl l ↦ inl (omega (arith, l)) | inr e ↦ inr (ap suc e) ]

nothing : (q : ℕ) → Contains [] q → ⊥
nothing q c = absurd (omega (arith, c.1))

pub none_same : (met found : List ℕ) → met ≡ [] → found ≡ [] → AreSame met found
unfolding IsDistinct
none_same met found e f = subst (λ ms. AreSame ms found) (sym e) (subst (λ fs. AreSame [] fs) (sym f) (record { same = λ q. ((λ c. c), (λ c. c)); once = tt }))

module _ (graph : Graph) (start : ℕ) where
  pub walk_begins : (row begun met found : List ℕ) → begun ≡ [] → row ≡ supers graph start → AreSame met found → GoesOn row begun found → IsWalk graph start 0 met found
  walk_begins row begun met found none is are goes = record {
    same = are;
    above = λ q c. elim ((goes.each q).0 c) [
      | inl b ↦ absurd (nothing q (subst (λ ys. Contains ys q) none b))
      | inr r ↦ direct start q (subst (λ ys. Contains ys q) is r)
    ];
    first = λ q c. (goes.each q).1 (inr (subst (λ ys. Contains ys q) (sym is) c));
    up = λ i q l c. absurd (omega (arith, l));
    within = omega arith;
  }

  pub walk_on : (done : ℕ) (row old met found new : List ℕ) → IsWalk graph start done met old → done < length old → row ≡ supers graph (get_or old done 0) → AreSame new found → GoesOn row old found → IsWalk graph start (done + 1) new found
  walk_on done row old met found new walk l is are goes = record {
    same = are;
    above = λ q c. elim ((goes.each q).0 c) [
      | inl b ↦ walk.above q b
      | inr r ↦ further_on graph (walk.above (get_or old done 0) (done, l, get_or_default old done (get_or old done 0) 0 l)) q (subst (λ ys. Contains ys q) is r)
    ];
    first = λ q c. (goes.each q).1 (inl (walk.first q c));
    up = λ i q k c. elim (split i done k) [
      | inl less ↦ (goes.each q).1 (inl (walk.up i q less (subst (λ n. Contains (supers graph n) q) (kept i (omega (arith, less, l))) c)))
      | inr same ↦ (goes.each q).1 (inr (subst (λ ys. Contains ys q) (sym is) (subst (λ n. Contains (supers graph n) q) (ap (λ j. get_or found j 0) same ∙ kept done l) c)))
    ];
    within = omega (arith, l, long, length-append old goes.more);
  }
    where
      kept : (i : ℕ) → i < length old → get_or found i 0 ≡ get_or old i 0
      kept i k = ap (λ ys. get_or ys i 0) goes.on ∙ get_or_append_left old goes.more 0 i k

      long : length found ≡ length (old ++ goes.more)
      long = ap (λ (ys : List ℕ). length ys) goes.on

  pub walk_ends : (done : ℕ) (met found : List ℕ) → IsWalk graph start done met found → length found ≤ done → (q : ℕ) → Contains found q ↔ Above graph start q
  walk_ends done met found walk l q = ((λ c. walk.above q c), (λ a. begin a refl))
    where
      step : (a b : ℕ) → Contains found a → Contains (supers graph a) b → Contains found b
      step a b c h = walk.up c.0 b (omega (arith, c.1, l)) (subst (λ n. Contains (supers graph n) b) (sym (get_or_default found c.0 0 a c.1 ∙ c.2)) h)

      on : {a b : ℕ} → Above graph a b → Contains found a → Contains found b
      on (direct a b h) c = step a b c h
      on (further a b d h rest) c = on rest (step a b c h)

      begin : {a b : ℕ} → Above graph a b → a ≡ start → Contains found b
      begin (direct a b h) e = walk.first b (subst (λ n. Contains (supers graph n) b) e h)
      begin (further a b d h rest) e = on rest (walk.first b (subst (λ n. Contains (supers graph n) b) e h))

  named : (a b : ℕ) → IsWithin graph → a < length graph → Contains (supers graph a) b → b < length graph
  named a b within l h = All-contains (λ q. q < length graph) (supers graph a) b (All-get_or (λ row. All (λ q. q < length graph) row) graph a [] l within) h

  there : {a b : ℕ} → IsWithin graph → Above graph a b → a < length graph → b < length graph
  there within (direct a b h) l = named a b within l h
  there within (further a b c h rest) l = there within rest (named a b within l h)

  pub found_there : (done : ℕ) (met found : List ℕ) → IsWithin graph → start < length graph → IsWalk graph start done met found → (q : ℕ) → Contains found q → q < length graph
  found_there done met found within l walk q c = there within (walk.above q c) l

  pub found_few : (done : ℕ) (met found : List ℕ) → IsWithin graph → start < length graph → IsWalk graph start done met found → length found ≤ length graph
  found_few done met found within l walk =
      length-le_from_distinct_below found (length graph) walk.same.once (λ q e. found_there done met found within l walk q (Contains-from_any (λ y z h. eqb-true y z h) q found e))

  pub next_there : (done : ℕ) (met found : List ℕ) → IsWithin graph → start < length graph → IsWalk graph start done met found → done < length found → get_or found done 0 < length graph
  next_there done met found within l walk k = found_there done met found within l walk (get_or found done 0) (done, k, get_or_default found done (get_or found done 0) 0 k)
