-- Printing, number by number and line by line.
use Rattle.std.proofs.Common.{◌≡◌, ℕ, ℤ, List, [], ◌∷◌, ◌++◌, refl, sym, ap, ◌∙◌, append_assoc}
use Rattle.std.specs.Fmt.{signed_decimal}
use Rattle.std.proofs.lemmas.List.{append-nil}
use Rattle.jesc_cert.specs.Texts.{numbers_text, ended}

-- the texts of two lists of numbers
pub numbers_joined : (xs ys : List ℤ) → numbers_text (xs ++ ys) ≡ numbers_text xs ++ numbers_text ys
numbers_joined [] ys = refl
numbers_joined (x ∷ xs) ys = ap (λ t. 32 ∷ t) (ap (λ t. signed_decimal x ++ t) (numbers_joined xs ys) ∙ sym (append_assoc (signed_decimal x) (numbers_text xs) (numbers_text ys)))

-- one number more
pub number_more : (before : List ℕ) (xs : List ℤ) (x : ℤ) → before ++ numbers_text (xs ++ x ∷ []) ≡ (before ++ numbers_text xs) ++ 32 ∷ signed_decimal x
number_more before xs x =
    ap (λ t. before ++ t) (numbers_joined xs (x ∷ []) ∙ ap (λ t. numbers_text xs ++ 32 ∷ t) (append-nil (signed_decimal x)))
    ∙ sym (append_assoc before (numbers_text xs) (32 ∷ signed_decimal x))

-- two lists of ended lines
pub ended_joined : (xs ys : List (List ℕ)) → ended (xs ++ ys) ≡ ended xs ++ ended ys
ended_joined [] ys = refl
ended_joined (x ∷ xs) ys = ap (λ t. x ++ 10 ∷ t) (ended_joined xs ys) ∙ sym (append_assoc x (10 ∷ ended xs) (ended ys))

-- one line more
pub ended_more : (before : List ℕ) (xs : List (List ℕ)) (x : List ℕ) → (before ++ ended xs) ++ ended (x ∷ []) ≡ before ++ ended (xs ++ x ∷ [])
ended_more before xs x = append_assoc before (ended xs) (ended (x ∷ [])) ∙ ap (λ t. before ++ t) (sym (ended_joined xs (x ∷ [])))
