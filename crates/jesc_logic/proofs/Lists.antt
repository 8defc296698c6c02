-- Elements of a list that grows at its end.
use Rattle.std.proofs.Common.{◌≡◌, ℕ, zero, suc, ◌<◌, List, [], ◌∷◌, ◌++◌, length, slice_get, unwrap_or, Some, ◌⊎◌, inl, inr, refl, ap, ◌∙◌, arith}

module _ {X : Type 0} where
  pub get_front : (xs ys : List X) (i : ℕ) → i < length xs → slice_get (xs ++ ys) i ≡ slice_get xs i
  get_front [] ys i p = absurd (omega arith)
  get_front (x ∷ xs) ys zero p = refl
  get_front (x ∷ xs) ys (suc i) p = get_front xs ys i (omega arith)

  pub get_last : (xs : List X) (x : X) → slice_get (xs ++ x ∷ []) (length xs) ≡ Some x
  get_last [] x = refl
  get_last (y ∷ xs) x = get_last xs x

  -- an element stands before the last, or is the last
  pub at_seam : (xs : List X) (x : X) (k : ℕ) (y : X) → slice_get (xs ++ x ∷ []) k ≡ Some y → (slice_get xs k ≡ Some y) ⊎ ((k ≡ length xs) × (x ≡ y))
  at_seam [] x zero y e = inr (refl, cc)
  at_seam [] x (suc k) y e = cc
  at_seam (z ∷ xs) x zero y e = inl e
  at_seam (z ∷ xs) x (suc k) y e = elim (at_seam xs x k y e) [ inl h ↦ inl h | inr h ↦ inr (ap suc h.0, h.1) ]

  pub within : (xs : List X) (k : ℕ) (x : X) → slice_get xs k ≡ Some x → k < length xs
  within [] k x e = cc
  within (y ∷ xs) zero x e = omega arith
  within (y ∷ xs) (suc k) x e = let h = within xs k x e in omega (arith, h)

  -- an element that is there, by a default
  pub there : (xs : List X) (k : ℕ) (d : X) → k < length xs → slice_get xs k ≡ Some (unwrap_or (slice_get xs k) d)
  there [] k d h = absurd (omega arith)
  there (x ∷ xs) zero d h = refl
  there (x ∷ xs) (suc k) d h = there xs k d (omega arith)

  pub get_kept : (xs ys : List X) (k : ℕ) (x : X) → slice_get xs k ≡ Some x → slice_get (xs ++ ys) k ≡ Some x
  get_kept xs ys k x e = get_front xs ys k (within xs k x e) ∙ e
