-- What holds of each item of a list that is made of others, and which items it has.
use Rattle.std.proofs.Common.{◌≡◌, ℕ, List, [], ◌∷◌, get_or, All, Contains, Option, Some, None, ◌⊎◌, inl, inr, refl, sym, subst, arith}
use Rattle.std.specs.List.{flat_map, filter_map, cons_option}
use Rattle.std.proofs.lemmas.List.Elements.{All-nil, All-cons, All-head, All-tail, All-append, Contains-append_left, Contains-append_right, Contains-append_cases}

pub no_item : {X : Type 0} (x : X) → Contains [] x → ⊥
no_item x h = absurd (omega (arith, h.1))

only : {X : Type 0} (y x : X) → Contains (y ∷ []) x → y ≡ x
only y x h = let z : h.0 ≡ 0 = omega (arith, h.1) in subst (λ (k : ℕ). get_or (y ∷ []) k x ≡ x) z h.2

pub first_or_later : {X : Type 0} (y : X) (xs : List X) (x : X) → Contains (y ∷ xs) x → (y ≡ x) ⊎ Contains xs x
first_or_later y xs x h = by (Contains-append_cases (y ∷ []) xs x h)
  where
    by : Contains (y ∷ []) x ⊎ Contains xs x → (y ≡ x) ⊎ Contains xs x
    by (inl p) = inl (only y x p)
    by (inr p) = inr p

module _ {X Y : Type 0} (P : X → Type 0) (Q : Y → Type 0) where
  pub All-flat_map : (f : X → List Y) → ((x : X) → P x → All Q (f x)) → (xs : List X) → All P xs → All Q (flat_map f xs)
  All-flat_map f h [] p = All-nil Q
  All-flat_map f h (x ∷ xs) p = All-append Q (f x) (flat_map f xs) (h x (All-head P x xs p)) (All-flat_map f h xs (All-tail P x xs p))

  one_more : (o : Option Y) (ys : List Y) → ((y : Y) → o ≡ Some y → Q y) → All Q ys → All Q (cons_option o ys)
  one_more None ys h q = q
  one_more (Some y) ys h q = All-cons Q y ys (h y refl) q

  pub All-filter_map : (f : X → Option Y) → ((x : X) (y : Y) → P x → f x ≡ Some y → Q y) → (xs : List X) → All P xs → All Q (filter_map f xs)
  All-filter_map f h [] p = All-nil Q
  All-filter_map f h (x ∷ xs) p = one_more (f x) (filter_map f xs) (λ y e. h x y (All-head P x xs p) e) (All-filter_map f h xs (All-tail P x xs p))

module _ {Y : Type 0} where
  later : (o : Option Y) (ys : List Y) (y : Y) → Contains ys y → Contains (cons_option o ys) y
  later None ys y h = h
  later (Some z) ys y h = Contains-append_right (z ∷ []) ys y h

  here : (o : Option Y) (ys : List Y) (y : Y) → o ≡ Some y → Contains (cons_option o ys) y
  here o ys y e = subst (λ (p : Option Y). Contains (cons_option p ys) y) (sym e) (0, omega arith, refl)

module _ {X Y : Type 0} where
  pub Contains-flat_map : (f : X → List Y) (xs : List X) (x : X) (y : Y) → Contains xs x → Contains (f x) y → Contains (flat_map f xs) y
  Contains-flat_map f [] x y p q = absurd (no_item x p)
  Contains-flat_map f (z ∷ xs) x y p q = by (first_or_later z xs x p) (λ r. Contains-flat_map f xs x y r q)
    where
      by : (z ≡ x) ⊎ Contains xs x → (Contains xs x → Contains (flat_map f xs) y) → Contains (flat_map f (z ∷ xs)) y
      by (inl e) rest = Contains-append_left (f z) (flat_map f xs) y (subst (λ (w : X). Contains (f w) y) (sym e) q)
      by (inr r) rest = Contains-append_right (f z) (flat_map f xs) y (rest r)

  pub Contains-filter_map : (f : X → Option Y) (xs : List X) (x : X) (y : Y) → Contains xs x → f x ≡ Some y → Contains (filter_map f xs) y
  Contains-filter_map f [] x y p e = absurd (no_item x p)
  Contains-filter_map f (z ∷ xs) x y p e = by (first_or_later z xs x p) (λ r. Contains-filter_map f xs x y r e)
    where
      by : (z ≡ x) ⊎ Contains xs x → (Contains xs x → Contains (filter_map f xs) y) → Contains (filter_map f (z ∷ xs)) y
      by (inl s) rest = here (f z) (filter_map f xs) y (subst (λ (w : X). f w ≡ Some y) (sym s) e)
      by (inr r) rest = later (f z) (filter_map f xs) y (rest r)
