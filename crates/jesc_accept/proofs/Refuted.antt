-- No structure makes formulas true whose clauses have an accepted certificate.
use Rattle.std.proofs.Common.{◌≡◌, ℕ, zero, suc, Bool, true, false, List, [], ◌∷◌, map, ℤ, ◌+ℤ◌, ◌*ℤ◌, refl, sym, ap, ◌∙◌}
use Rattle.std.proofs.lemmas.List.Elements.{All-weaker}
use Rattle.std.specs.Prelude.{All, IsTrue, ◌&&◌, ◌||◌, not, if◌then◌else◌}
use Rattle.jesc_cert.specs.declared.cert.CertLine.{CertLine}
use Rattle.jesc_logic.specs.Terms.{Term, number, constant, unary, binary, ternary}
use Rattle.jesc_logic.specs.Claims.{Claim, truth, falsity, at_most, equal, negation, both, either, over}
use Rattle.jesc_logic.specs.Structures.{Structure, read, of_two, value, holds, is_true}
use Rattle.jesc_clauses.specs.declared.clause.Clauses.{Clauses}
use Rattle.jesc_clauses.specs.Clausified.{IsClausified}
use Rattle.jesc_clauses.specs.Readings.{is_number, reading, arguments, HaveSymbol, IsCongruent, IsModel}
use Rattle.jesc_accept.specs.Verdicts.{IsAccepted}
use Rattle.jesc_accept.proofs.Sound.{sound}

-- ---- a structure's numbers for opaque terms give each term what it is worth there

either_way : (b : Bool) (x y : ℤ) → y ≡ x → (if b then x else y) ≡ x
either_way true x y e = refl
either_way false x y e = e

worth : (s : Structure) (t : Term) → reading (value s) t ≡ value s t
worth s (number n) = refl
worth s (constant symbol) = refl
worth s (unary symbol a) = refl
worth s (binary zero a b) = λ i. worth s a i +ℤ worth s b i
worth s (binary (suc zero) a b) = either_way (not (is_number a || is_number b)) (value s a *ℤ value s b) (reading (value s) a *ℤ reading (value s) b) (λ i. worth s a i *ℤ worth s b i)
worth s (binary (suc (suc k)) a b) = refl
worth s (ternary symbol a b c) = refl

all_worth : (s : Structure) (ts : List Term) → map (reading (value s)) ts ≡ map (value s) ts
all_worth s [] = refl
all_worth s (t ∷ ts) = let e = worth s t in let rest = all_worth s ts in λ i. e i ∷ rest i

claim_worth : (s : Structure) (f : Claim Term) → holds (over (reading (value s)) f) ≡ is_true s f
claim_worth s truth = refl
claim_worth s falsity = refl
claim_worth s (at_most a b) = λ i. holds (at_most (worth s a i) (worth s b i))
claim_worth s (equal a b) = λ i. holds (equal (worth s a i) (worth s b i))
claim_worth s (negation f) = ap not (claim_worth s f)
claim_worth s (both f g) = λ i. claim_worth s f i && claim_worth s g i
claim_worth s (either f g) = λ i. claim_worth s f i || claim_worth s g i

-- ---- and the same to applications of one symbol to arguments of the same worth

-- the symbol applied to numbers
abbrev by_symbol : Structure → ℕ → List ℤ → ℤ
by_symbol s symbol [] = read s symbol []
by_symbol s symbol (x ∷ []) = read s symbol (x ∷ [])
by_symbol s symbol (x ∷ y ∷ []) = of_two s symbol x y
by_symbol s symbol (x ∷ y ∷ z ∷ rest) = read s symbol (x ∷ y ∷ z ∷ rest)

applied_worth : (s : Structure) (symbol : ℕ) (t : Term) → HaveSymbol t symbol → value s t ≡ by_symbol s symbol (map (value s) (arguments t))
applied_worth s symbol (number n) h = absurd h
applied_worth s symbol (constant own) h = ap (λ k. read s k []) h
applied_worth s symbol (unary own a) h = ap (λ k. read s k (value s a ∷ [])) h
applied_worth s symbol (binary own a b) h = ap (λ k. of_two s k (value s a) (value s b)) h
applied_worth s symbol (ternary own a b c) h = ap (λ k. read s k (value s a ∷ value s b ∷ value s c ∷ [])) h

congruent : (s : Structure) → IsCongruent (value s)
congruent s symbol t u p q h k e =
    let same : map (value s) (arguments t) ≡ map (value s) (arguments u) = sym (all_worth s (arguments t)) ∙ (e ∙ all_worth s (arguments u)) in
    applied_worth s symbol t h ∙ (ap (by_symbol s symbol) same ∙ sym (applied_worth s symbol u k))

-- ---- so it is a model where the formulas are true there

model : (s : Structure) (claims : List (Claim Term)) → All (λ f. IsTrue (is_true s f)) claims → IsModel claims (value s)
model s claims h = record {
  true = All-weaker (λ f. IsTrue (is_true s f)) (λ f. IsTrue (holds (over (reading (value s)) f))) (λ f e. claim_worth s f ∙ e) claims h;
  congruent = congruent s;
}

pub refuted : (table : List Term) (claims : List (Claim Term)) (clauses : Clauses) (lines : List CertLine) → IsClausified table claims clauses → IsAccepted clauses lines
    → (s : Structure) → All (λ f. IsTrue (is_true s f)) claims → ⊥
refuted table claims clauses lines is accepted s h = let v = is.complete (value s) (model s claims h) in sound clauses lines accepted v.0 v.1.0
