-- Lists that are zipped, joined and counted.
use Rattle.std.proofs.Common.{◌≡◌, ℕ, zero, suc, ◌+◌, ◌<◌, ◌≤◌, List, [], ◌∷◌, ◌++◌, map, take, length, get_or, Contains, ◌⊎◌, inl, inr, refl, ap, sym, ◌∙◌, subst, arith, append_assoc, append-nil, take_all, length-append}
use Rattle.std.proofs.lemmas.List.{take_more, map-append}
use Rattle.std.specs.Prelude.{Result, Ok, Err, IfOk}
use Rattle.std.specs.List.{AllZip}
use Rattle.jesc_names.specs.Program.{joined, counted}
use Rattle.jesc_names.specs.TablesRows.{total}

pub if_ok : {A E : Type 0} {P Q : A → Type 0} (r : Result A E) → ((a : A) → P a → Q a) → IfOk r P → IfOk r Q
if_ok (Ok a) f h = f a h
if_ok (Err e) f h = h

pub zip_push : {A B : Type 0} (R : A → B → Type 0) (xs : List A) (ys : List B) (x : A) (y : B) → AllZip R xs ys → R x y → AllZip R (xs ++ x ∷ []) (ys ++ y ∷ [])
zip_push R [] [] x y h r = (r, tt)
zip_push R [] (z ∷ ys) x y h r = absurd h
zip_push R (w ∷ xs) [] x y h r = absurd h
zip_push R (w ∷ xs) (z ∷ ys) x y h r = (h.0, zip_push R xs ys x y h.1 r)

pub zip_length : {A B : Type 0} (R : A → B → Type 0) (xs : List A) (ys : List B) → AllZip R xs ys → length xs ≡ length ys
zip_length R [] [] h = refl
zip_length R [] (z ∷ ys) h = absurd h
zip_length R (w ∷ xs) [] h = absurd h
zip_length R (w ∷ xs) (z ∷ ys) h = ap suc (zip_length R xs ys h.1)

pub front : {A : Type 0} (xs : List A) (i : ℕ) (x : A) → i < length xs → x ≡ get_or xs i x → take (i + 1) xs ≡ take i xs ++ x ∷ []
front xs i x l e = take_more xs i x l ∙ ap (λ z. take i xs ++ z ∷ []) (sym e)

pub zip_more : {A B : Type 0} (R : A → B → Type 0) (xs : List A) (ys zs : List B) (i : ℕ) (x : A) (y : B) → i < length xs → x ≡ get_or xs i x → zs ≡ ys ++ y ∷ [] → AllZip R (take i xs) ys → R x y → AllZip R (take (i + 1) xs) zs
zip_more R xs ys zs i x y l e grown h r =
    subst (AllZip R (take (i + 1) xs)) (sym grown) (subst (λ ws. AllZip R ws (ys ++ y ∷ [])) (sym (front xs i x l e)) (zip_push R (take i xs) ys x y h r))

pub zip_end : {A B : Type 0} (R : A → B → Type 0) (xs : List A) (ys : List B) (i : ℕ) → length xs ≤ i → AllZip R (take i xs) ys → AllZip R xs ys
zip_end R xs ys i l = subst (λ ws. AllZip R ws ys) (take_all i xs l)

-- ---- joined lists

pub joined-append : {A : Type 0} (xs ys : List (List A)) → joined (xs ++ ys) ≡ joined xs ++ joined ys
joined-append [] ys = refl
joined-append (x ∷ xs) ys = ap (λ z. x ++ z) (joined-append xs ys) ∙ sym (append_assoc x (joined xs) (joined ys))

pub joined_more : {A B : Type 0} (f : A → List B) (xs : List A) (i : ℕ) (x : A) → i < length xs → x ≡ get_or xs i x → joined (map f (take (i + 1) xs)) ≡ joined (map f (take i xs)) ++ f x
joined_more f xs i x l e =
    ap (λ ws. joined (map f ws)) (front xs i x l e)
    ∙ ap joined (map-append f (take i xs) (x ∷ []))
    ∙ joined-append (map f (take i xs)) (f x ∷ [])
    ∙ ap (λ z. joined (map f (take i xs)) ++ z) (append-nil (f x))

pub map_more : {A B : Type 0} (f : A → B) (xs : List A) (i : ℕ) (x : A) → i < length xs → x ≡ get_or xs i x → map f (take (i + 1) xs) ≡ map f (take i xs) ++ f x ∷ []
map_more f xs i x l e = ap (map f) (front xs i x l e) ∙ map-append f (take i xs) (x ∷ [])

-- which of the lists holds an item
pub joined_in : {A B : Type 0} (f : A → List B) (xs : List A) (b : B) → Contains (joined (map f xs)) b → (a : A) × Contains xs a × Contains (f a) b
joined_in f [] b c = absurd (omega (arith, c.1))
joined_in f (x ∷ xs) b c = elim (cases (f x) (joined (map f xs)) b c) [
  | inl d ↦ (x, (0, omega arith, refl), d)
  | inr d ↦ let r = joined_in f xs b d in (r.0, (suc r.1.0, omega (arith, r.1.1), r.1.2), r.2)
]
  where
    cases : {B : Type 0} (us vs : List B) (b : B) → Contains (us ++ vs) b → Contains us b ⊎ Contains vs b
    cases [] vs b c = inr c
    cases (u ∷ us) vs b (zero, l, e) = inl (zero, omega arith, e)
    cases (u ∷ us) vs b (suc k, l, e) = elim (cases us vs b (k, omega (arith, l), e)) [
      | inl d ↦ inl (suc d.0, omega (arith, d.1), d.2)
      | inr d ↦ inr d
    ]

pub in_front : {A : Type 0} (us vs : List A) (b : A) → Contains us b → Contains (us ++ vs) b
in_front [] vs b c = absurd (omega (arith, c.1))
in_front (u ∷ us) vs b (zero, l, e) = (zero, omega arith, e)
in_front (u ∷ us) vs b (suc k, l, e) = let r = in_front us vs b (k, omega (arith, l), e) in (suc r.0, omega (arith, r.1), r.2)

pub behind : {A : Type 0} (us vs : List A) (b : A) → Contains vs b → Contains (us ++ vs) b
behind [] vs b c = c
behind (u ∷ us) vs b c = let r = behind us vs b c in (suc r.0, omega (arith, r.1), r.2)

pub in_joined : {A B : Type 0} (f : A → List B) (xs : List A) (a : A) (b : B) → Contains xs a → Contains (f a) b → Contains (joined (map f xs)) b
in_joined f [] a b c d = absurd (omega (arith, c.1))
in_joined f (x ∷ xs) a b (zero, l, e) d = in_front (f x) (joined (map f xs)) b (subst (λ y. Contains (f y) b) (sym e) d)
in_joined f (x ∷ xs) a b (suc k, l, e) d = behind (f x) (joined (map f xs)) b (in_joined f xs a b (k, omega (arith, l), e) d)

-- ---- counted numbers

pub counted-append : (n a b : ℕ) → counted n a ++ counted (n + a) b ≡ counted n (a + b)
counted-append n zero b = let e : n + 0 ≡ n = omega arith in let f : b ≡ 0 + b = omega arith in ap (λ m. counted m b) e ∙ ap (counted n) f
counted-append n (suc a) b =
    let e : n + suc a ≡ n + 1 + a = omega arith in
    let f : suc (a + b) ≡ suc a + b = omega arith in
    ap (λ xs. n ∷ xs) (ap (λ m. counted (n + 1) a ++ counted m b) e ∙ counted-append (n + 1) a b) ∙ ap (counted n) f

pub counted_push : (n a : ℕ) → counted n (a + 1) ≡ counted n a ++ (n + a) ∷ []
counted_push n a = sym (counted-append n a 1)

pub counted_below : (n a q : ℕ) → Contains (counted n a) q → q < n + a
counted_below n zero q c = absurd (omega (arith, c.1))
counted_below n (suc a) q (zero, l, e) = omega (arith, e)
counted_below n (suc a) q (suc k, l, e) = let r = counted_below (n + 1) a q (k, omega (arith, l), e) in omega (arith, r)

pub total-append : (xs ys : List ℕ) → total (xs ++ ys) ≡ total xs + total ys
total-append [] ys = omega arith
total-append (x ∷ xs) ys = let r = total-append xs ys in omega (arith, r)

-- as many items as the lists have together
pub joined_total : {A B : Type 0} (f : A → List B) (xs : List A) → length (joined (map f xs)) ≡ total (map (λ x. length (f x)) xs)
joined_total f [] = refl
joined_total f (x ∷ xs) = let r = joined_total f xs in omega (arith, length-append (f x) (joined (map f xs)), r)
