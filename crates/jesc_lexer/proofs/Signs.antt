use Rattle.std.proofs.Common.{◌≡◌, ℕ, List, [], ◌∷◌, ◌++◌, length, refl, arith, true, false, cond, nat_eq, nat_lt, ◌==◌, ◌||◌}
use Rattle.std.specs.List.{starts_with, list_all}
use Rattle.std.proofs.lemmas.Bool.Decides.{nat_tests}
use Rattle.jesc_lexer.specs.Lexemes.{first_fit, any_fit}

-- the first fit among texts of one length
pub fit_same : (n : ℕ) (texts more : List (List ℕ)) (bytes : List ℕ) → list_all (λ text. length text == n) texts ≡ true
    → first_fit (texts ++ more) bytes ≡ cond (any_fit texts bytes) n (first_fit more bytes)
fit_same n [] more bytes all = refl
fit_same n (text ∷ texts) more bytes all =
    let here : length text ≡ n = grind (arith, nat_tests) in
    let others : list_all (λ text. length text == n) texts ≡ true = grind (arith, nat_tests) in
    let rest = fit_same n texts more bytes others in
    elim (starts_with nat_eq bytes text) as (λ v. cond v (length text) (first_fit (texts ++ more) bytes) ≡ cond (v || any_fit texts bytes) n (first_fit more bytes)) [ true ↦ here | false ↦ rest ]

-- the first fit among some texts, else among others
pub fit_else : (texts more : List (List ℕ)) (bytes : List ℕ) → list_all (λ text. nat_lt 0 (length text)) texts ≡ true
    → first_fit (texts ++ more) bytes ≡ cond (nat_lt 0 (first_fit texts bytes)) (first_fit texts bytes) (first_fit more bytes)
fit_else [] more bytes all = refl
fit_else (text ∷ texts) more bytes all =
    let here : nat_lt 0 (length text) ≡ true = grind (arith, nat_tests) in
    let others : list_all (λ text. nat_lt 0 (length text)) texts ≡ true = grind (arith, nat_tests) in
    let rest = fit_else texts more bytes others in
    elim (starts_with nat_eq bytes text) as (λ v. cond v (length text) (first_fit (texts ++ more) bytes) ≡ cond (nat_lt 0 (cond v (length text) (first_fit texts bytes))) (cond v (length text) (first_fit texts bytes)) (first_fit more bytes)) [ true ↦ rw here refl | false ↦ rest ]
