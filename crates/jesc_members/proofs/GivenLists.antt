-- Lists that are made of one for each item: one item more.
use Rattle.std.proofs.Common.{◌≡◌, ℕ, ◌+◌, ◌<◌, List, [], ◌∷◌, ◌++◌, length, take, get_or, ap, sym, ◌∙◌, arith, append_assoc}
use Rattle.std.proofs.lemmas.List.{append-nil, length-take-le, take_more}

-- f has what an item at a place gives, and g what a list from a place on gives
module _ {X Y : Type 0} (f : ℕ → X → List Y) (g : ℕ → List X → List Y) (none : (n : ℕ) → g n [] ≡ []) (some : (n : ℕ) (x : X) (xs : List X) → g n (x ∷ xs) ≡ f n x ++ g (n + 1) xs) where
  push : (n : ℕ) (xs : List X) (x : X) → g n (xs ++ x ∷ []) ≡ g n xs ++ f (n + length xs) x
  push n [] x =
      let at : n ≡ n + 0 = omega arith in
      some n x [] ∙ ap (λ ys. f n x ++ ys) (none (n + 1)) ∙ append-nil (f n x) ∙ ap (λ k. f k x) at ∙ ap (λ ys. ys ++ f (n + 0) x) (sym (none n))
  push n (y ∷ xs) x =
      let at : n + 1 + length xs ≡ n + length (y ∷ xs) = omega arith in
      some n y (xs ++ x ∷ []) ∙ ap (λ ys. f n y ++ ys) (push (n + 1) xs x) ∙ ap (λ k. f n y ++ (g (n + 1) xs ++ f k x)) at ∙ sym (append_assoc (f n y) (g (n + 1) xs) (f (n + length (y ∷ xs)) x))
      ∙ ap (λ ys. ys ++ f (n + length (y ∷ xs)) x) (sym (some n y xs))

  pub one_more : (n : ℕ) (xs : List X) (i : ℕ) (x : X) → i < length xs → x ≡ get_or xs i x → g n (take (i + 1) xs) ≡ g n (take i xs) ++ f (n + i) x
  one_more n xs i x l is =
      ap (λ ys. g n ys) (take_more xs i x l ∙ ap (λ y. take i xs ++ y ∷ []) (sym is)) ∙ push n (take i xs) x ∙ ap (λ k. g n (take i xs) ++ f (n + k) x) (length-take-le i xs (omega (arith, l)))

  -- a list that has what the first items give, and then what one more gives
  pub grows : (n : ℕ) (xs : List X) (i : ℕ) (x : X) (front old new : List Y) → i < length xs → x ≡ get_or xs i x → old ≡ front ++ g n (take i xs) → new ≡ old ++ f (n + i) x → new ≡ front ++ g n (take (i + 1) xs)
  grows n xs i x front old new l is before more =
      more ∙ ap (λ ys. ys ++ f (n + i) x) before ∙ append_assoc front (g n (take i xs)) (f (n + i) x) ∙ ap (λ ys. front ++ ys) (sym (one_more n xs i x l is))
