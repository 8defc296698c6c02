-- Which elements a list has, and what holds of each.
use Rattle.std.proofs.Common.{◌≡◌, List, [], ◌∷◌, ◌++◌, Bool, true, false, cond, ◌⊎◌, inl, inr, refl, sym, ◌∙◌, ap, subst, filter}
use Rattle.std.proofs.lemmas.Bool.{cases_Bool, or_cases, or_parts, false≢true}
use Rattle.std.proofs.lemmas.List.Elements.{All-nil, All-cons, All-head, All-tail}
use Rattle.std.specs.Prelude.{All}
use Rattle.std.specs.List.{list_any}

abbrev pub In : {A : Type 0} → A → List A → Type 0
In x [] = ⊥
In x (y ∷ ys) = (x ≡ y) ⊎ In x ys

abbrev pub Every : {A : Type 0} → (A → Type 0) → List A → Type 0
Every {A} P xs = (x : A) → In x xs → P x

pub in_all : {A : Type 0} (P : A → Type 0) (xs : List A) → All P xs → Every P xs
in_all P [] h x k = elim k [ ]
in_all P (y ∷ ys) h x (inl k) = subst P (sym k) (All-head P y ys h)
in_all P (y ∷ ys) h x (inr k) = in_all P ys (All-tail P y ys h) x k

pub all_in : {A : Type 0} (P : A → Type 0) (xs : List A) → Every P xs → All P xs
all_in P [] h = All-nil P
all_in P (y ∷ ys) h = All-cons P y ys (h y (inl refl)) (all_in P ys (λ x k. h x (inr k)))

pub in_left : {A : Type 0} (x : A) (xs ys : List A) → In x xs → In x (xs ++ ys)
in_left x [] ys h = elim h [ ]
in_left x (y ∷ xs) ys (inl h) = inl h
in_left x (y ∷ xs) ys (inr h) = inr (in_left x xs ys h)

pub in_right : {A : Type 0} (x : A) (xs ys : List A) → In x ys → In x (xs ++ ys)
in_right x [] ys h = h
in_right x (y ∷ xs) ys h = inr (in_right x xs ys h)

pub in_either : {A : Type 0} (x : A) (xs ys : List A) → In x (xs ++ ys) → In x xs ⊎ In x ys
in_either x [] ys h = inr h
in_either x (y ∷ xs) ys (inl h) = inl (inl h)
in_either x (y ∷ xs) ys (inr h) = elim (in_either x xs ys h) [ inl k ↦ inl (inr k) | inr k ↦ inr k ]

-- ---- those that pass a test

one_kept : {A : Type 0} (p : A → Bool) (x y : A) (ys : List A) (t : Bool) → p y ≡ t → (In x (filter p ys) → In x ys × (p x ≡ true))
    → In x (cond t (y ∷ filter p ys) (filter p ys)) → In x (y ∷ ys) × (p x ≡ true)
one_kept p x y ys true e rest (inl h) = (inl h, ap p h ∙ e)
one_kept p x y ys true e rest (inr h) = let r = rest h in (inr r.0, r.1)
one_kept p x y ys false e rest h = let r = rest h in (inr r.0, r.1)

pub from_filter : {A : Type 0} (p : A → Bool) (x : A) (xs : List A) → In x (filter p xs) → In x xs × (p x ≡ true)
from_filter p x [] h = elim h [ ]
from_filter p x (y ∷ ys) h = one_kept p x y ys (p y) refl (λ k. from_filter p x ys k) h

pub to_filter : {A : Type 0} (p : A → Bool) (x : A) (xs : List A) → In x xs → p x ≡ true → In x (filter p xs)
to_filter p x [] h q = elim h [ ]
to_filter p x (y ∷ ys) (inl h) q = let e : p y ≡ true = sym (ap p h) ∙ q in rw e (inl h)
to_filter p x (y ∷ ys) (inr h) q = elim (cases_Bool (p y)) [
  | inl e ↦ rw e (inr (to_filter p x ys h q))
  | inr e ↦ rw e (to_filter p x ys h q)
]

pub any_true : {A : Type 0} (p : A → Bool) (xs : List A) → list_any p xs ≡ true → (x : A) × In x xs × (p x ≡ true)
any_true p [] e = absurd (false≢true e)
any_true p (y ∷ ys) e = elim (or_cases (p y) (list_any p ys) e) [
  | inl h ↦ (y, inl refl, h)
  | inr h ↦ let r = any_true p ys h in (r.0, inr r.1, r.2)
]

pub any_false : {A : Type 0} (p : A → Bool) (xs : List A) → list_any p xs ≡ false → Every (λ x. p x ≡ false) xs
any_false p [] e x h = elim h [ ]
any_false p (y ∷ ys) e x (inl h) = ap p h ∙ (or_parts (p y) (list_any p ys) e).0
any_false p (y ∷ ys) e x (inr h) = any_false p ys (or_parts (p y) (list_any p ys) e).1 x h
