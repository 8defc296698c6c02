-- Bytes split at the first of a kind.
use Rattle.std.proofs.Common.{◌≡◌, ℕ, zero, suc, ◌+◌, ◌<◌, List, [], ◌∷◌, ◌++◌, length, get_or, take, drop, refl, sym, ap, ◌∙◌, subst, arith}
use Rattle.std.specs.Prelude.{All}
use Rattle.std.specs.List.{starts_with}
use Rattle.std.proofs.Common.{true, nat_eq}
use Rattle.std.proofs.lemmas.Slice.Eq.{starts_is}
use Rattle.std.proofs.lemmas.Bool.Decides.{Decides-eqb}
use Rattle.std.proofs.lemmas.List.{take_more, take-append-drop}
use Rattle.std.proofs.lemmas.List.Elements.{All-head, All-tail, All-cons, All-nil}
use Rattle.jesc_cert.specs.Inner.{Without, Breaks, IsFirst, IsFeed}

pub without_joined : (b : ℕ) (xs ys : List ℕ) → Without b xs → Without b ys → Without b (xs ++ ys)
without_joined b [] ys p q = q
without_joined b (x ∷ xs) ys p q = (p.0, without_joined b xs ys p.1 q)

pub without_all : (b : ℕ) (xs : List ℕ) → All (λ x. x ≡ b → ⊥) xs → Without b xs
without_all b [] p = tt
without_all b (x ∷ xs) p = (All-head (λ y. y ≡ b → ⊥) x xs p, without_all b xs (All-tail (λ y. y ≡ b → ⊥) x xs p))

pub all_without : (b : ℕ) (xs : List ℕ) → Without b xs → All (λ x. x ≡ b → ⊥) xs
all_without b [] p = All-nil (λ x. x ≡ b → ⊥)
all_without b (x ∷ xs) p = All-cons (λ y. y ≡ b → ⊥) x xs p.0 (all_without b xs p.1)

pub without_more : (b : ℕ) (xs : List ℕ) (i : ℕ) → i < length xs → Without b (take i xs) → (get_or xs i 0 ≡ b → ⊥) → Without b (take (i + 1) xs)
without_more b xs i l p q = subst (Without b) (sym (take_more xs i 0 l)) (without_joined b (take i xs) (get_or xs i 0 ∷ []) p (q, tt))

pub breaks_at : (b : ℕ) (xs : List ℕ) (i : ℕ) → get_or xs i 0 ≡ b → i < length xs → Breaks b (drop i xs)
breaks_at b [] i e l = absurd (omega (arith, l))
breaks_at b (x ∷ xs) zero e l = e
breaks_at b (x ∷ xs) (suc i) e l = breaks_at b xs i e (omega (arith, l))

-- the parts up to the byte are the same, and what is behind them
pub split_same : (b : ℕ) (xs ys s t : List ℕ) → Without b xs → Without b ys → Breaks b s → Breaks b t → xs ++ s ≡ ys ++ t → (xs ≡ ys) × (s ≡ t)
split_same b [] [] s t p q m n e = (refl, e)
split_same b [] (y ∷ ys) [] t p q m n e = absurd (omega (arith, ap length e))
split_same b [] (y ∷ ys) (x ∷ s) t p q m n e = absurd (q.0 (sym (ap (λ l. get_or l 0 0) e) ∙ m))
split_same b (x ∷ xs) [] s [] p q m n e = absurd (omega (arith, ap length e))
split_same b (x ∷ xs) [] s (y ∷ t) p q m n e = absurd (p.0 (ap (λ l. get_or l 0 0) e ∙ n))
split_same b (x ∷ xs) (y ∷ ys) s t p q m n e =
    let r = split_same b xs ys s t p.1 q.1 m n (ap (drop 1) e) in
    ((λ i. ap (λ l. get_or l 0 0) e i ∷ r.0 i), r.1)

-- the byte is not in front of the end where it does not stand at all
pub no_split : (b : ℕ) (xs ys t : List ℕ) → Without b xs → xs ≡ ys ++ b ∷ t → ⊥
no_split b [] [] t p e = omega (arith, ap length e)
no_split b [] (y ∷ ys) t p e = omega (arith, ap length e)
no_split b (x ∷ xs) [] t p e = p.0 (ap (λ l. get_or l 0 0) e)
no_split b (x ∷ xs) (y ∷ ys) t p e = no_split b xs ys t p.1 (ap (drop 1) e)

-- what stands before the first such byte, and behind it
pub first_is : (b : ℕ) (xs : List ℕ) (count : ℕ) (ys t : List ℕ) → IsFirst b xs count → Without b ys → Breaks b t → xs ≡ ys ++ t → (take count xs ≡ ys) × (drop count xs ≡ t)
first_is b xs count ys t first p q e = split_same b (take count xs) ys (drop count xs) t first.apart p first.breaks q (take-append-drop count xs ∙ e)

at_break : (b : ℕ) (xs : List ℕ) (count : ℕ) → count < length xs → Breaks b (drop count xs) → drop count xs ≡ b ∷ drop (suc count) xs
at_break b [] count l p = absurd (omega (arith, l))
at_break b (x ∷ xs) zero l p = λ i. p i ∷ xs
at_break b (x ∷ xs) (suc count) l p = at_break b xs count (omega (arith, l)) p

-- the byte that was found, and what is behind it
pub found : (b : ℕ) (xs : List ℕ) (count : ℕ) → IsFirst b xs count → (count ≡ length xs → ⊥) → drop count xs ≡ b ∷ drop (count + 1) xs
found b xs count first less =
    let within = first.within in
    let more : suc count ≡ count + 1 = omega arith in
    at_break b xs count (grind arith) first.breaks ∙ ap (λ n. b ∷ drop n xs) more

pub feed_is : (xs : List ℕ) (count : ℕ) → IsFirst 10 xs count → (count ≡ length xs → ⊥) → IsFeed xs count
feed_is xs count first less =
    let within = first.within in
    record {
      within = grind arith;
      apart = first.apart;
      are = sym (take-append-drop count xs) ∙ ap (λ t. take count xs ++ t) (found 10 xs count first less);
    }

pub without_take : (b : ℕ) (n : ℕ) (xs : List ℕ) → Without b xs → Without b (take n xs)
without_take b zero xs p = tt
without_take b (suc n) [] p = tt
without_take b (suc n) (x ∷ xs) p = (p.0, without_take b n xs p.1)

pub without_drop : (b : ℕ) (n : ℕ) (xs : List ℕ) → Without b xs → Without b (drop n xs)
without_drop b zero xs p = p
without_drop b (suc n) [] p = tt
without_drop b (suc n) (x ∷ xs) p = without_drop b n xs p.1

-- what begins with a text is the text and what stands behind it
pub text_front : (front xs : List ℕ) → true ≡ starts_with nat_eq xs front → xs ≡ front ++ drop (length front) xs
text_front front xs e = (starts_is Decides-eqb xs front true e).0 refl
