-- What a set of numbers holds after a number was put in or taken out.
use Rattle.std.proofs.Common.{◌≡◌, ◌↔◌, ℕ, zero, suc, ◌<◌, ◌≤◌, Bool, true, false, cond, List, [], ◌∷◌, ◌++◌, ◌⊎◌, inl, inr, refl, ap, sym, ◌∙◌, subst, arith, true≢false}
use Rattle.std.specs.Prelude.{Result, Ok, Err, OnOk}
use Rattle.std.specs.List.{Contains, All}
use Rattle.std.specs.Ordering.{nat_cmp, is_eq, MatchOrdering}
use Rattle.std.specs.declared.cmp.Ordering.{Ordering}
use Rattle.std.specs.declared.cmp.Ordering.TheVariants.{Less, Equal, Greater}
use Rattle.std.specs.BTreeSet.{BTreeSet, contains, Updates}
use Rattle.std.specs.BTreeMap.{is_at}
use Rattle.std.specs.BTreeMap.Range.{IsLtBy}
use Rattle.std.specs.Cmp.{ranks}
use Rattle.std.proofs.lemmas.Map.Views.{btree_set_contains_iff}
use Rattle.std.proofs.lemmas.Map.Lookups.{exact_unsigned}
use Rattle.std.proofs.lemmas.Cmp.{nat_cmp_total}
use Rattle.std.proofs.lemmas.List.Elements.{Contains-append_cases, Contains-append_left, Contains-append_right}

found : (s : BTreeSet ℕ) (q : ℕ) → (contains nat_cmp s q ≡ true) ↔ Contains s.keys q
found s q = btree_set_contains_iff nat_cmp_total exact_unsigned s q

is_equal : (o : Ordering) → is_eq o ≡ true → o ≡ Equal
is_equal Less e = absurd (true≢false (sym e))
is_equal Equal e = refl
is_equal Greater e = absurd (true≢false (sym e))

either : (b : Bool) → cond b true true ≡ true
either true = refl
either false = refl

pub added : (s n : BTreeSet ℕ) (k : ℕ) → Updates nat_cmp s n k true → (q : ℕ) → Contains n.keys q ↔ (Contains s.keys q ⊎ (q ≡ k))
added s n k u q = (λ c. by (is_at (nat_cmp k) q) refl (sym (u.0 q) ∙ (found n q).1 c), back)
  where
    by : (b : Bool) → is_at (nat_cmp k) q ≡ b → cond b true (contains nat_cmp s q) ≡ true → Contains s.keys q ⊎ (q ≡ k)
    by true e f = inr (sym (exact_unsigned k q (is_equal (nat_cmp k q) e)))
    by false e f = inl ((found s q).0 f)

    back : Contains s.keys q ⊎ (q ≡ k) → Contains n.keys q
    back (inl c) = (found n q).0 (u.0 q ∙ ap (cond (is_at (nat_cmp k) q) true) ((found s q).1 c) ∙ either (is_at (nat_cmp k) q))
    back (inr e) = subst (λ x. Contains n.keys x) (sym e) ((found n k).0 u.1)

-- each of a list
pub at : {X : Type 0} (P : X → Type 0) (xs : List X) (x : X) → All P xs → Contains xs x → P x
at P xs x all c = subst P c.2 (all c.0 x c.1)

pub later : {X : Type 0} (x : X) (xs : List X) (q : X) → Contains xs q → Contains (x ∷ xs) q
later x xs q c = (suc c.0, omega (arith, c.1), c.2)

pub smaller : (xs : List ℕ) (k : ℕ) → All (λ q. IsLtBy nat_cmp q k) xs → (q : ℕ) → Contains xs q → q < k
smaller xs k all q c = subst (λ r. MatchOrdering r (q < k) (q ≡ k) (k < q)) (at (λ x. IsLtBy nat_cmp x k) xs q all c) (ranks q k)

pub none : (q : ℕ) → Contains [] q → ⊥
none q c = absurd (omega (arith, c.1))

-- one more than the last of a list
abbrev pub above : List ℕ → ℕ
above [] = 0
above (x ∷ []) = suc x
above (x ∷ y ∷ ys) = above (y ∷ ys)

pub above-last : (xs : List ℕ) (k : ℕ) → above (xs ++ k ∷ []) ≡ suc k
above-last [] k = refl
above-last (x ∷ []) k = refl
above-last (x ∷ y ∷ ys) k = above-last (y ∷ ys) k

pub above-le : (xs : List ℕ) (k : ℕ) → ((q : ℕ) → Contains xs q → q < k) → above xs ≤ k
above-le [] k f = omega arith
above-le (x ∷ []) k f = f x (0, omega arith, refl)
above-le (x ∷ y ∷ ys) k f = above-le (y ∷ ys) k (λ q c. f q (later x (y ∷ ys) q c))

-- what each step adds, one after the other
abbrev pub Adds : List ℕ → List ℕ → List ℕ → Type 0
Adds old more new = (q : ℕ) → Contains new q ↔ (Contains old q ⊎ Contains more q)

pub adds-none : (old : List ℕ) → Adds old [] old
adds-none old q = (λ c. inl c, λ s. elim s [ inl c ↦ c | inr n ↦ absurd (none q n) ])

pub adds-one : (old new : List ℕ) (k : ℕ) → ((q : ℕ) → Contains new q ↔ (Contains old q ⊎ (q ≡ k))) → Adds old (k ∷ []) new
adds-one old new k a q = (
  (λ c. elim ((a q).0 c) [ inl o ↦ inl o | inr e ↦ inr (0, omega arith, sym e) ]),
  (λ s. elim s [ inl o ↦ (a q).1 (inl o) | inr m ↦ (a q).1 (inr (only k q m)) ]),
)
  where
    only : (k q : ℕ) → Contains (k ∷ []) q → q ≡ k
    only k q (zero, l, e) = sym e
    only k q (suc i, l, e) = absurd (omega (arith, l))

pub adds-both : (old mid new xs ys : List ℕ) → Adds old xs mid → Adds mid ys new → Adds old (xs ++ ys) new
adds-both old mid new xs ys f g q = (split, join)
  where
    split : Contains new q → Contains old q ⊎ Contains (xs ++ ys) q
    split c = elim ((g q).0 c) [
      | inl m ↦ elim ((f q).0 m) [ inl o ↦ inl o | inr x ↦ inr (Contains-append_left xs ys q x) ]
      | inr y ↦ inr (Contains-append_right xs ys q y)
    ]

    join : Contains old q ⊎ Contains (xs ++ ys) q → Contains new q
    join (inl o) = (g q).1 (inl ((f q).1 (inl o)))
    join (inr b) = elim (Contains-append_cases xs ys q b) [
      | inl x ↦ (g q).1 (inl ((f q).1 (inr x)))
      | inr y ↦ (g q).1 (inr y)
    ]

pub on_ok : {A E P Q : Type 0} (r : Result A E) → (P → Q) → OnOk r P → OnOk r Q
on_ok (Ok a) f p = f p
on_ok (Err e) f p = p

-- the last of the keys is the greatest
pub last : (met rest : List ℕ) (k : ℕ) → met ≡ rest ++ k ∷ [] → Contains met k
last met rest k e = subst (λ xs. Contains xs k) (sym e) (Contains-append_right rest (k ∷ []) k (0, omega arith, refl))

pub greatest : (met rest : List ℕ) (k : ℕ) → met ≡ rest ++ k ∷ [] → All (λ q. IsLtBy nat_cmp q k) rest → (q : ℕ) → Contains met q → q ≤ k
greatest met rest k e lower q c = elim (Contains-append_cases rest (k ∷ []) q (subst (λ xs. Contains xs q) e c)) [
  | inl o ↦ (let l = smaller rest k lower q o in omega (arith, l))
  | inr o ↦ only o
]
  where
    only : Contains (k ∷ []) q → q ≤ k
    only (zero, l, f) = omega (arith, f)
    only (suc i, l, f) = absurd (omega (arith, l))
