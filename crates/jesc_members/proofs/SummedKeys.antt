-- Keys by name and number of parameters, and rows by class, are keys of the given methods.
use Rattle.std.proofs.Common.{◌≡◌, ◌↔◌, ℕ, zero, suc, ◌+◌, ◌<◌, Bool, true, false, List, [], ◌∷◌, length, get_or, map, inl, inr, Some, None, refl, ap, sym, ◌∙◌, subst, arith, nat_eq, nat_lt, eqb-true, eq-eqb, ltb-true, ltb-false, if◌then◌else◌}
use Rattle.std.specs.Prelude.{slice_get}
use Rattle.std.specs.List.{Contains}
use Rattle.std.proofs.lemmas.List.{get_or-map, length-map, get_or_past}
use Rattle.std.proofs.lemmas.Option.{slice_get_within, get_or_from_slice_get}
use Rattle.jesc_classes.specs.Headings.{Source, graph_of}
use Rattle.jesc_classes.specs.laws.Lawful.{same_some}
use Rattle.jesc_classes.specs.laws.Orders.{later, here, first_or_later, nothing}
use Rattle.jesc_members.specs.Counts.{Label, alike}
use Rattle.jesc_members.specs.Keys.{AreRows, HasKeys, first_equal, numbers_of}
use Rattle.jesc_members.specs.Methods.{MethodOf, methods_of}
use Rattle.jesc_members.specs.Overriding.{AreAlike}
use Rattle.jesc_members.specs.Summaries.{IsMethodAt}
use Rattle.jesc_members.specs.Summed.{AreKeysOf}
use Rattle.jesc_members.proofs.InheritCounted.{alike_decides, alike_itself}
use Rattle.jesc_members.proofs.InheritMethods.{label_of, method_owners_small}
use Rattle.jesc_members.proofs.InheritNumbers.{found_like}

-- ---- keys

module _ (methods : List MethodOf) (keys : List ℕ) (has : HasKeys Label alike (map label_of methods) keys) where
  pub key_is : (i : ℕ) (a : MethodOf) → IsMethodAt methods i a → first_equal alike 0 (label_of a) (map label_of methods) ≡ Some (get_or keys i 0)
  key_is i a at =
      let inside : i < length methods = slice_get_within methods i a at in
      let l : get_or (map label_of methods) i (label_of a) ≡ label_of a = get_or-map label_of methods i a (label_of a) inside ∙ ap label_of (get_or_from_slice_get methods i a a at) in
      ap (λ x. first_equal alike 0 x (map label_of methods)) (sym l) ∙ has.each i (label_of a) (omega (arith, inside, length-map methods label_of))

  same_keys : (i j : ℕ) (a b : MethodOf) → IsMethodAt methods i a → IsMethodAt methods j b → (get_or keys i 0 ≡ get_or keys j 0) ↔ AreAlike a b
  same_keys i j a b at bt = (
    λ e.
        let p = found_like Label MethodOf alike alike_decides alike_itself (λ m. m.class) label_of 0 (label_of a) (map label_of methods) (get_or keys i 0) (label_of a) (key_is i a at) in
        let q = found_like Label MethodOf alike alike_decides alike_itself (λ m. m.class) label_of 0 (label_of b) (map label_of methods) (get_or keys j 0) (label_of a) (key_is j b bt) in
        let k : p.0 ≡ q.0 = omega (arith, p.1, q.1, e) in
        let s : label_of a ≡ label_of b = sym p.3 ∙ ap (λ x. get_or (map label_of methods) x (label_of a)) k ∙ q.3 in
        (ap (λ (l : Label). l.0) s, ap (λ (l : Label). l.1) s),
    λ w.
        let s : label_of a ≡ label_of b = ap (λ t. (t, length a.tree.params)) w.0 ∙ ap (λ n. (b.tree.name.text, n)) w.1 in
        same_some (get_or keys i 0) (get_or keys j 0) (sym (key_is i a at) ∙ ap (λ x. first_equal alike 0 x (map label_of methods)) s ∙ key_is j b bt),
  )

-- ---- rows

abbrev classes_of : List MethodOf → List ℕ
classes_of methods = map (λ m. m.class) methods

-- the number of one of the class's methods, counted from n
abbrev IsNumbered : ℕ → ℕ → List MethodOf → ℕ → Type 0
IsNumbered class n methods i = (j : ℕ) × (m : MethodOf) × (i ≡ n + j) × IsMethodAt methods j m × (m.class ≡ class)

numbered : (class n : ℕ) (methods : List MethodOf) (i : ℕ) → Contains (numbers_of class n (classes_of methods)) i → IsNumbered class n methods i
numbered class n [] i c = absurd (nothing i c)
numbered class n (x ∷ methods) i c = by (nat_eq class x.class) refl c (λ k. more (numbered class (n + 1) methods i k))
  where
    more : IsNumbered class (n + 1) methods i → IsNumbered class n (x ∷ methods) i
    more (j, m, e, at, o) = (suc j, m, omega (arith, e), at, o)

    by : (b : Bool) → nat_eq class x.class ≡ b → Contains (if b then n ∷ numbers_of class (n + 1) (classes_of methods) else numbers_of class (n + 1) (classes_of methods)) i
        → (Contains (numbers_of class (n + 1) (classes_of methods)) i → IsNumbered class n (x ∷ methods) i) → IsNumbered class n (x ∷ methods) i
    by true e k rest = elim (first_or_later n (numbers_of class (n + 1) (classes_of methods)) i k) [
      | inl f ↦ (0, x, omega (arith, f), refl, sym (eqb-true class x.class e))
      | inr l ↦ rest l
    ]
    by false e k rest = rest k

none_at : (m : MethodOf) → None ≡ Some m → ⊥
none_at m e = cc

in_numbers : (class n : ℕ) (methods : List MethodOf) (j : ℕ) (m : MethodOf) → IsMethodAt methods j m → m.class ≡ class → Contains (numbers_of class n (classes_of methods)) (n + j)
in_numbers class n [] j m at o = absurd (none_at m at)
in_numbers class n (x ∷ methods) zero m at o =
    let e : class ≡ x.class = sym o ∙ ap (λ (y : MethodOf). y.class) (sym (same_some x m at)) in
    let z : n ≡ n + 0 = omega arith in
    subst (λ b. Contains (if b then n ∷ numbers_of class (n + 1) (classes_of methods) else numbers_of class (n + 1) (classes_of methods)) (n + 0)) (sym (eq-eqb class x.class e))
    (subst (Contains (n ∷ numbers_of class (n + 1) (classes_of methods))) z (here n (numbers_of class (n + 1) (classes_of methods))))
in_numbers class n (x ∷ methods) (suc j) m at o =
    let z : (n + 1) + j ≡ n + suc j = omega arith in
    by (nat_eq class x.class) (subst (Contains (numbers_of class (n + 1) (classes_of methods))) z (in_numbers class (n + 1) methods j m at o))
  where
    by : (b : Bool) → Contains (numbers_of class (n + 1) (classes_of methods)) (n + suc j) → Contains (if b then n ∷ numbers_of class (n + 1) (classes_of methods) else numbers_of class (n + 1) (classes_of methods)) (n + suc j)
    by true c = later n (numbers_of class (n + 1) (classes_of methods)) (n + suc j) c
    by false c = c

module _ (given : List Source) (keys : List ℕ) (rows : List (List ℕ)) (rowed : AreRows (length (graph_of given)) (classes_of (methods_of given)) rows) where
  abbrev IsOwn : ℕ → ℕ → Type 0
  IsOwn class i = (m : MethodOf) × IsMethodAt (methods_of given) i m × (m.class ≡ class)

  in_row : (class i : ℕ) → Contains (get_or rows class []) i ↔ IsOwn class i
  in_row class i = by (nat_lt class (length (graph_of given))) refl
    where
      by : (b : Bool) → nat_lt class (length (graph_of given)) ≡ b → Contains (get_or rows class []) i ↔ IsOwn class i
      by true e =
          let is = rowed.each class (ltb-true class (length (graph_of given)) e) in (
            λ c.
                let r = numbered class 0 (methods_of given) i (subst (λ l. Contains l i) is c) in
                let f : i ≡ r.0 = omega (arith, r.2) in
                (r.1, ap (slice_get (methods_of given)) f ∙ r.3, r.4),
            λ w.
                let z : 0 + i ≡ i = omega arith in
                subst (λ l. Contains l i) (sym is) (subst (Contains (numbers_of class 0 (classes_of (methods_of given)))) z (in_numbers class 0 (methods_of given) i w.0 w.1 w.2)),
          )
      by false e =
          let past = ltb-false class (length (graph_of given)) e in
          let is : get_or rows class [] ≡ [] = get_or_past rows class [] (omega (arith, past, rowed.count)) in (
            λ c. absurd (nothing i (subst (λ l. Contains l i) is c)),
            λ w.
                let small = method_owners_small given i w.0 (slice_get_within (methods_of given) i w.0 w.1) in
                let inside : w.0.class < length (graph_of given) = subst (λ (m : MethodOf). m.class < length (graph_of given)) (get_or_from_slice_get (methods_of given) i w.0 w.0 w.1) small in
                absurd (omega (arith, past, inside, w.2)),
          )

  pub are_keys_of : HasKeys Label alike (map label_of (methods_of given)) keys → AreKeysOf given keys rows
  are_keys_of has = record {
    keyed = same_keys (methods_of given) keys has;
    rowed = in_row;
  }
