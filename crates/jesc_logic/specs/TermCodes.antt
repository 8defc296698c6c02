-- Terms written as lists of numbers, by which proofs tell them apart. No contract speaks of this.
use Rattle.std.specs.Prelude.{◌≡◌, ℕ, zero, suc, ℤ, pos, unsigned_abs, List, [], ◌∷◌, refl}
use Rattle.std.proofs.Common.{ap, ◌∙◌}
use Rattle.std.specs.Coded.{Coded, code_by, coded×, coded_ℕ, coded_ℤ, coded_list}
use Rattle.jesc_logic.specs.Terms.{Term, number, constant, unary, binary, ternary}

-- a number, or a symbol behind its arguments
abbrev pub Letter : Type 0
Letter = ℕ × ℤ

abbrev pub written : Term → List Letter → List Letter
written (number n) rest = (0, n) ∷ rest
written (constant symbol) rest = (1, pos symbol) ∷ rest
written (unary symbol a) rest = written a ((2, pos symbol) ∷ rest)
written (binary symbol a b) rest = written a (written b ((3, pos symbol) ∷ rest))
written (ternary symbol a b c) rest = written a (written b (written c ((4, pos symbol) ∷ rest)))

-- the terms read so far, the last first, and one more letter
abbrev pub and_letter : List Term → ℕ → ℤ → List Term
and_letter terms zero n = number n ∷ terms
and_letter terms (suc zero) n = constant (unsigned_abs n) ∷ terms
and_letter [] (suc (suc k)) n = []
and_letter (c ∷ terms) (suc (suc zero)) n = unary (unsigned_abs n) c ∷ terms
and_letter (c ∷ []) (suc (suc (suc k))) n = []
and_letter (c ∷ b ∷ terms) (suc (suc (suc zero))) n = binary (unsigned_abs n) b c ∷ terms
and_letter (c ∷ b ∷ []) (suc (suc (suc (suc k)))) n = []
and_letter (c ∷ b ∷ a ∷ terms) (suc (suc (suc (suc k)))) n = ternary (unsigned_abs n) a b c ∷ terms

abbrev pub after_letters : List Term → List Letter → List Term
after_letters terms [] = terms
after_letters terms (letter ∷ rest) = after_letters (and_letter terms letter.0 letter.1) rest

abbrev pub first_of_terms : List Term → Term
first_of_terms [] = number (pos 0)
first_of_terms (t ∷ terms) = t

pub read_back : (t : Term) (terms : List Term) (rest : List Letter) → after_letters terms (written t rest) ≡ after_letters (t ∷ terms) rest
read_back (number n) terms rest = refl
read_back (constant symbol) terms rest = refl
read_back (unary symbol a) terms rest = read_back a terms ((2, pos symbol) ∷ rest)
read_back (binary symbol a b) terms rest = read_back a terms (written b ((3, pos symbol) ∷ rest)) ∙ read_back b (a ∷ terms) ((3, pos symbol) ∷ rest)
read_back (ternary symbol a b c) terms rest =
    read_back a terms (written b (written c ((4, pos symbol) ∷ rest))) ∙ (read_back b (a ∷ terms) (written c ((4, pos symbol) ∷ rest)) ∙ read_back c (b ∷ a ∷ terms) ((4, pos symbol) ∷ rest))

abbrev pub coded_term : Coded Term
coded_term = code_by (List Letter) (coded_list (coded× coded_ℕ coded_ℤ)) (λ t. written t []) (λ letters. first_of_terms (after_letters [] letters)) (λ t. ap first_of_terms (read_back t [] []))
