-- The order of the ids of fields has each field once.
use Rattle.std.proofs.Common.{◌≡◌, ℕ, zero, suc, ◌+◌, ◌<◌, ◌≤◌, Bool, true, false, nat_eq, eqb-true, eq-eqb, true≢false, if◌then◌else◌, List, [], ◌∷◌, ◌++◌, map, length, get_or, Contains, inl, inr, Some, slice_get, refl, ap, sym, ◌∙◌, subst, arith}
use Rattle.std.proofs.lemmas.List.{get_or_default}
use Rattle.std.proofs.lemmas.List.Elements.{Contains-append_cases, Contains-get_or}
use Rattle.std.specs.List.{All}
use Rattle.jesc_classes.specs.Headings.{Source}
use Rattle.jesc_classes.specs.Entries.{AreApart}
use Rattle.jesc_classes.specs.laws.Lawful.{inside, value, same_some}
use Rattle.jesc_members.specs.Fields.{FieldOf, fields_of}
use Rattle.jesc_names.specs.Program.{numbers_in, field_order, joined}
use Rattle.jesc_names.specs.TablesKnown.{IsReadyField}
use Rattle.jesc_names.proofs.TablesZips.{joined_in, in_joined}

-- ---- lists without an item twice

abbrev AreUnlike : List ℕ → Type 0
AreUnlike [] = Unit {0}
AreUnlike (x ∷ xs) = (Contains xs x → ⊥) × AreUnlike xs

unlike_apart : (xs : List ℕ) → AreUnlike xs → AreApart xs
unlike_apart [] h i j l m e = omega (arith, m)
unlike_apart (x ∷ xs) h zero zero l m e = omega (arith, l)
unlike_apart (x ∷ xs) h zero (suc j) l m e =
    let inner : j < length xs = omega (arith, m) in
    h.0 (j, inner, get_or_default xs j x 0 inner ∙ sym e)
unlike_apart (x ∷ xs) h (suc i) zero l m e = omega (arith, l)
unlike_apart (x ∷ xs) h (suc i) (suc j) l m e = unlike_apart xs h.1 i j (omega (arith, l)) (omega (arith, m)) e

apart_unlike : (xs : List ℕ) → AreApart xs → AreUnlike xs
apart_unlike [] h = tt
apart_unlike (x ∷ xs) h = (
  (λ c. h 0 (suc c.0) (omega arith) (omega (arith, c.1)) (sym (get_or_default xs c.0 0 x c.1 ∙ c.2))),
  apart_unlike xs (λ i j l m e. h (suc i) (suc j) (omega (arith, l)) (omega (arith, m)) e),
)

not_in_both : (xs ys : List ℕ) (x : ℕ) → (Contains xs x → ⊥) → (Contains ys x → ⊥) → Contains (xs ++ ys) x → ⊥
not_in_both xs ys x f g c = elim (Contains-append_cases xs ys x c) [ inl d ↦ f d | inr d ↦ g d ]

unlike_both : (xs ys : List ℕ) → AreUnlike xs → AreUnlike ys → ((v : ℕ) → Contains xs v → Contains ys v → ⊥) → AreUnlike (xs ++ ys)
unlike_both [] ys h k f = k
unlike_both (x ∷ xs) ys h k f = (not_in_both xs ys x h.0 (f x (0, omega arith, refl)), unlike_both xs ys h.1 k (λ v c. f v (suc c.0, omega (arith, c.1), c.2)))

-- ---- the numbers of a class's fields

-- the field of the number v, where numbers begin with n
record IsOf (class n : ℕ) (fs : List FieldOf) (v : ℕ) : Type 0 where
  place : ℕ
  at : v ≡ n + place
  f : FieldOf
  is : slice_get fs place ≡ Some f
  own : f.class ≡ class

one_later : (class n : ℕ) (f : FieldOf) (fs : List FieldOf) (v : ℕ) → IsOf class (n + 1) fs v → IsOf class n (f ∷ fs) v
one_later class n f fs v o = record { place = suc o.place; at = omega (arith, o.at); f = o.f; is = o.is; own = o.own }

number_of : (class n : ℕ) (fs : List FieldOf) (v : ℕ) → Contains (numbers_in class n fs) v → IsOf class n fs v
number_of class n [] v c = absurd (omega (arith, c.1))
number_of class n (f ∷ fs) v c = by (nat_eq class f.class) refl (λ d. number_of class (n + 1) fs v d) c
  where
    by : (b : Bool) → nat_eq class f.class ≡ b → (Contains (numbers_in class (n + 1) fs) v → IsOf class (n + 1) fs v) → Contains (if b then n ∷ numbers_in class (n + 1) fs else numbers_in class (n + 1) fs) v → IsOf class n (f ∷ fs) v
    by true e rest (zero, l, g) = record { place = 0; at = omega (arith, g); f = f; is = refl; own = sym (eqb-true class f.class e) }
    by true e rest (suc k, l, g) = one_later class n f fs v (rest (k, omega (arith, l), g))
    by false e rest d = one_later class n f fs v (rest d)

has_number : (class n : ℕ) (fs : List FieldOf) (k : ℕ) (f : FieldOf) → slice_get fs k ≡ Some f → f.class ≡ class → Contains (numbers_in class n fs) (n + k)
has_number class n [] k f e own = cc
has_number class n (g ∷ fs) k f e own = by (nat_eq class g.class) refl (λ j d. has_number class (n + 1) fs j f d own) k e
  where
    by : (b : Bool) → nat_eq class g.class ≡ b → ((j : ℕ) → slice_get fs j ≡ Some f → Contains (numbers_in class (n + 1) fs) (n + 1 + j)) → (k : ℕ) → slice_get (g ∷ fs) k ≡ Some f → Contains (if b then n ∷ numbers_in class (n + 1) fs else numbers_in class (n + 1) fs) (n + k)
    by true t rest zero e = (0, omega arith, omega arith)
    by true t rest (suc j) e =
        let c = rest j e in
        let at : n + 1 + j ≡ n + suc j = omega arith in
        let d = subst (λ x. Contains (numbers_in class (n + 1) fs) x) at c in
        (suc d.0, omega (arith, d.1), d.2)
    by false t rest zero e =
        let is : g ≡ f = same_some g f e in
        absurd (true≢false (sym (eq-eqb class g.class (sym (ap (λ x. x.class) is ∙ own))) ∙ t))
    by false t rest (suc j) e =
        let at : n + 1 + j ≡ n + suc j = omega arith in
        subst (λ x. Contains (numbers_in class (n + 1) fs) x) at (rest j e)

numbers_unlike : (class n : ℕ) (fs : List FieldOf) → AreUnlike (numbers_in class n fs)
numbers_unlike class n [] = tt
numbers_unlike class n (f ∷ fs) = by (nat_eq class f.class) (numbers_unlike class (n + 1) fs)
  where
    by : (b : Bool) → AreUnlike (numbers_in class (n + 1) fs) → AreUnlike (if b then n ∷ numbers_in class (n + 1) fs else numbers_in class (n + 1) fs)
    by true rest = ((λ c. let o = number_of class (n + 1) fs n c in let e = o.at in omega (arith, e)), rest)
    by false rest = rest

module _ (fs : List FieldOf) where
  abbrev own_numbers : ℕ → List ℕ
  own_numbers class = numbers_in class 0 fs

  one_class : (a b v : ℕ) → IsOf a 0 fs v → IsOf b 0 fs v → a ≡ b
  one_class a b v o p =
      let same : o.place ≡ p.place = omega (arith, o.at, p.at) in
      let f_is = same_some o.f p.f (sym o.is ∙ ap (slice_get fs) same ∙ p.is) in
      sym o.own ∙ ap (λ x. x.class) f_is ∙ p.own

  joined_unlike : (order : List ℕ) → AreUnlike order → AreUnlike (joined (map (λ class. numbers_in class 0 fs) order))
  joined_unlike [] h = tt
  joined_unlike (class ∷ order) h =
      unlike_both (numbers_in class 0 fs) (joined (map (λ k. numbers_in k 0 fs) order)) (numbers_unlike class 0 fs) (joined_unlike order h.1)
      (λ v c d.
      let r = joined_in (λ k. numbers_in k 0 fs) order v d in
      let same = one_class r.0 class v (number_of r.0 0 fs v r.2) (number_of class 0 fs v c) in
      h.0 (subst (λ k. Contains order k) same r.1))

module _ (given : List Source) (order : List ℕ) where
  pub field_apart : AreApart order → AreApart (field_order given order)
  field_apart apart = unlike_apart (field_order given order) (joined_unlike (fields_of given) order (apart_unlike order apart))

  field_below : (v : ℕ) → Contains (field_order given order) v → v < length (fields_of given)
  field_below v c =
      let r = joined_in (λ class. numbers_in class 0 (fields_of given)) order v c in
      let o = number_of r.0 0 (fields_of given) v r.2 in
      omega (arith, o.at, inside (fields_of given) o.place o.f o.is)

  pub field_within : (i : ℕ) → i < length (field_order given order) → get_or (field_order given order) i 0 < length (fields_of given)
  field_within i l = field_below (get_or (field_order given order) i 0) (Contains-get_or (field_order given order) i 0 l)

  pub field_whole : ((class : ℕ) → class < length given + 7 → Contains order class) → All (IsReadyField given) (fields_of given) → (n : ℕ) → n < length (fields_of given) → Contains (field_order given order) n
  field_whole whole ready n l = by n l (at (fields_of given) n l)
    where
      at : (fs : List FieldOf) (n : ℕ) → n < length fs → (f : FieldOf) × (slice_get fs n ≡ Some f)
      at [] n l = absurd (omega (arith, l))
      at (f ∷ fs) zero l = (f, refl)
      at (f ∷ fs) (suc n) l = at fs n (omega (arith, l))

      by : (n : ℕ) → n < length (fields_of given) → (f : FieldOf) × (slice_get (fields_of given) n ≡ Some f) → Contains (field_order given order) n
      by n l r =
          let high = subst (λ (x : FieldOf). x.class < length given + 7) (value (fields_of given) n r.0 r.0 r.1) ((ready n r.0 l).high) in
          let zeroth : 0 + n ≡ n = omega arith in
          in_joined (λ class. numbers_in class 0 (fields_of given)) order r.0.class n (whole r.0.class high)
          (subst (λ k. Contains (numbers_in r.0.class 0 (fields_of given)) k) zeroth (has_number r.0.class 0 (fields_of given) n r.0 r.1 refl))

-- a predefined class has no fields
no_numbers : (class n : ℕ) (fs : List FieldOf) → ((v : ℕ) → Contains (numbers_in class n fs) v → ⊥) → numbers_in class n fs ≡ []
no_numbers class n fs f = by (numbers_in class n fs) f
  where
    by : (xs : List ℕ) → ((v : ℕ) → Contains xs v → ⊥) → xs ≡ []
    by [] f = refl
    by (x ∷ xs) f = absurd (f x (0, omega arith, refl))

pub none_predefined : (given : List Source) → All (IsReadyField given) (fields_of given) → (class : ℕ) → class < 7 → numbers_in class 0 (fields_of given) ≡ []
none_predefined given ready class l = no_numbers class 0 (fields_of given) (λ v c.
    let o = number_of class 0 (fields_of given) v c in
    let low = subst (λ (x : FieldOf). 7 ≤ x.class) (value (fields_of given) o.place o.f o.f o.is) ((ready o.place o.f (inside (fields_of given) o.place o.f o.is)).low) in
    omega (arith, low, o.own, l))
