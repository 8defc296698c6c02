-- The walk over supertypes from the greatest id down.
use Rattle.std.proofs.Common.{◌≡◌, ◌↔◌, ℕ, zero, suc, ◌<◌, ◌≤◌, List, [], ◌∷◌, ◌++◌, length, ◌⊎◌, inl, inr, refl, ap, sym, ◌∙◌, subst, arith}
use Rattle.std.specs.List.{Contains, All}
use Rattle.std.specs.Prelude.{Option, Some, None}
use Rattle.std.specs.Ordering.{nat_cmp}
use Rattle.std.specs.BTreeMap.Range.{IsLtBy}
use Rattle.std.proofs.lemmas.List.Elements.{Contains-append_cases, Contains-append_left, Contains-append_right}
use Rattle.jesc_tree.specs.declared.class.Class.{Class}
use Rattle.jesc_tree.specs.declared.class.Field.{Field}
use Rattle.jesc_tree.specs.declared.class.Method.{Method}
use Rattle.jesc_tree.specs.Subtypes.{IsAt, Extends, Reaches, itself, further, supertypes}
use Rattle.jesc_tree.specs.Programs.{IsProgram}
use Rattle.jesc_tree.proofs.Sets.{at, none, above, above-last, above-le, smaller as under}

some_is : {X : Type 0} {x y : X} → Some x ≡ Some y → x ≡ y
some_is {X} {x} {y} e = ap (λ o. content x o) e
  where
    content : X → Option X → X
    content d None = d
    content d (Some z) = z

-- those met are reached, and the way to the class that is looked for leads through one of them
pub record Climbs (classes : List Class) (low high : ℕ) (met : List ℕ) : Type 0 where
  pub from : (p : ℕ) → Contains met p → Reaches classes low p
  pub to : Reaches classes low high → (p : ℕ) × Contains met p × Reaches classes p high
  pub within : (p : ℕ) → Contains met p → p < length classes

module _ (classes : List Class) (fields : List Field) (methods : List Method) (program : IsProgram classes fields methods) where
  -- a supertype has a smaller id
  pub smaller : (a b : ℕ) → Extends classes a b → b < a
  smaller a b e = at (λ s. s < a) (supertypes e.0) b (program.supertypes_first a e.0 e.1) e.2

  pub falls : (a b : ℕ) → Reaches classes a b → b ≤ a
  falls a b (itself c) = omega arith
  falls a b (further c d e x r) = omega (arith, smaller c d x, falls d e r)

  pub on_from : (a b c : ℕ) → Reaches classes a b → Extends classes b c → Reaches classes a c
  on_from a b c (itself d) x = further d c c x (itself c)
  on_from a b c (further d e f y r) x = further d e c y (on_from e f c r x)

  pub start : (low high : ℕ) (met : List ℕ) → low < length classes → ((q : ℕ) → Contains met q ↔ (Contains [] q ⊎ (q ≡ low))) → Climbs classes low high met
  start low high met l m = record {
    from = λ p c. elim ((m p).0 c) [ inl n ↦ absurd (none p n) | inr e ↦ subst (λ x. Reaches classes low x) (sym e) (itself low) ];
    to = λ r. (low, (m low).1 (inr refl), r);
    within = λ p c. elim ((m p).0 c) [ inl n ↦ absurd (none p n) | inr e ↦ subst (λ x. x < length classes) (sym e) l ];
  }

  -- the greatest is left, and the classes that its heading names are met
  pub next : (low high id : ℕ) (met rest new : List ℕ) (c : Class) → Climbs classes low high met → met ≡ rest ++ id ∷ [] → IsAt classes id c → high < id
      → ((q : ℕ) → Contains new q ↔ (Contains rest q ⊎ Contains (supertypes c) q)) → Climbs classes low high new
  next low high id met rest new c climbs split here above m = record {
    from = λ p n. elim ((m p).0 n) [ inl o ↦ climbs.from p (old p o) | inr s ↦ on_from low id p (climbs.from id last) (c, here, s) ];
    to = λ r. let t = climbs.to r in through t.0 t.1 t.2;
    within = λ p n. elim ((m p).0 n) [
      | inl o ↦ climbs.within p (old p o)
      | inr s ↦ let w = climbs.within id last in let f = smaller id p (c, here, s) in omega (arith, w, f)
    ];
  }
    where
      old : (p : ℕ) → Contains rest p → Contains met p
      old p o = subst (λ xs. Contains xs p) (sym split) (Contains-append_left rest (id ∷ []) p o)

      last : Contains met id
      last = subst (λ xs. Contains xs id) (sym split) (Contains-append_right rest (id ∷ []) id (0, omega arith, refl))

      named : (b : ℕ) → Extends classes id b → Contains (supertypes c) b
      named b x = subst (λ d. Contains (supertypes d) b) (some_is (sym x.1 ∙ here)) x.2

      only : (p : ℕ) → Contains (id ∷ []) p → p ≡ id
      only p (zero, l, e) = sym e
      only p (suc i, l, e) = absurd (omega (arith, l))

      onward : (p : ℕ) → p ≡ id → Reaches classes p high → (q : ℕ) × Contains new q × Reaches classes q high
      onward p e (itself a) = absurd (omega (arith, e, above))
      onward p e (further a b d x r) = (b, (m b).1 (inr (named b (subst (λ i. Extends classes i b) e x))), r)

      through : (p : ℕ) → Contains met p → Reaches classes p high → (q : ℕ) × Contains new q × Reaches classes q high
      through p o r = elim (Contains-append_cases rest (id ∷ []) p (subst (λ xs. Contains xs p) split o)) [
        | inl k ↦ (p, (m p).1 (inl k), r)
        | inr k ↦ onward p (only p k) r
      ]

  -- what is met next lies below the one that is left
  pub less : (id : ℕ) (met rest new : List ℕ) (c : Class) → met ≡ rest ++ id ∷ [] → All (λ q. IsLtBy nat_cmp q id) rest → IsAt classes id c
      → ((q : ℕ) → Contains new q ↔ (Contains rest q ⊎ Contains (supertypes c) q)) → above new < above met
  less id met rest new c split lower here m = omega (arith, bound, ap above split ∙ above-last rest id)
    where
      bound : above new ≤ id
      bound = above-le new id (λ q n. elim ((m q).0 n) [ inl o ↦ under rest id lower q o | inr s ↦ smaller id q (c, here, s) ])

  -- the greatest is not above the class that is looked for
  pub found : (low high id : ℕ) (met : List ℕ) → Climbs classes low high met → Contains met id → ((q : ℕ) → Contains met q → q ≤ id) → id ≤ high
      → (id ≡ high) ↔ Reaches classes low high
  found low high id met climbs has greatest below = (
    (λ e. subst (λ x. Reaches classes low x) e (climbs.from id has)),
    (λ r. let t = climbs.to r in let f = falls t.0 high t.2 in let g = greatest t.0 t.1 in omega (arith, f, g, below)),
  )

  pub lost : (low high : ℕ) (met : List ℕ) → Climbs classes low high met → met ≡ [] → Reaches classes low high → ⊥
  lost low high met climbs e r = let t = climbs.to r in none t.0 (subst (λ xs. Contains xs t.0) e t.1)
