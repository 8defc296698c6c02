-- What a name means in a class that declares it itself.
use Rattle.std.proofs.Common.{◌≡◌, ℕ, zero, suc, ◌+◌, Bool, true, false, List, [], ◌∷◌, Option, Some, None, refl, ap, sym, ◌∙◌, if◌then◌else◌}
use Rattle.std.specs.List.{slice_get}
use Rattle.jesc_classes.specs.Order.{Graph}
use Rattle.jesc_members.specs.Fields.{first_that}
use Rattle.jesc_lookup.specs.Lookup.{Found, own_one}
use Rattle.jesc_lookup.specs.laws.Lines.{one_found}

module _ (graph : Graph) (own : ℕ → Option ℕ) where
  pub own_found : (class k : ℕ) (found : Option ℕ) → Found graph own class found → own class ≡ Some k → found ≡ Some k
  own_found class k found h e = one_found graph own class found (Some k) h (own_one class k e)

-- ---- the first item that passes a test

first_if : {X : Type 0} (test : X → Bool) (m n : ℕ) (xs : List X) (x : X) → slice_get xs n ≡ Some x → test x ≡ true → (k : ℕ) × (first_that test m xs ≡ Some k)
first_if test m n [] x e t = cc
first_if test m zero (y ∷ xs) x e t =
    let same : y ≡ x = cc in
    (m, by (test y) (ap test same ∙ t))
  where
    by : (b : Bool) → b ≡ true → (if b then Some m else first_that test (m + 1) xs) ≡ Some m
    by true h = refl
    by false h = cc
first_if test m (suc n) (y ∷ xs) x e t = by (test y) (first_if test (m + 1) n xs x e t)
  where
    by : (b : Bool) → (k : ℕ) × (first_that test (m + 1) xs ≡ Some k) → (k : ℕ) × ((if b then Some m else first_that test (m + 1) xs) ≡ Some k)
    by true h = (m, refl)
    by false h = h

pub first_there : {X : Type 0} (test : X → Bool) (n : ℕ) (xs : List X) (x : X) → slice_get xs n ≡ Some x → test x ≡ true → (k : ℕ) × (first_that test 0 xs ≡ Some k)
first_there test n xs x e t = first_if test 0 n xs x e t
