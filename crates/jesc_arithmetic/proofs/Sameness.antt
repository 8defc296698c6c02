-- Whether terms and operations are the same.
use Rattle.std.proofs.Common.{◌≡◌, Bool, true, false, ◌&&◌, ◌==◌, Decides, refl, sym, ap, ◌∙◌}
use Rattle.std.proofs.lemmas.Bool.{eqb-true, eq-eqb}
use Rattle.std.proofs.lemmas.Bool.Decides.{Decides-int_eq}
use Rattle.jesc_logic.specs.Terms.{Term, number, constant, unary, binary, ternary}
use Rattle.jesc_arithmetic.specs.Operations.{Operation, product, quotient, remainder, division, same_term, same_operation}

pub both_parts : (a b : Bool) → a && b ≡ true → (a ≡ true) × (b ≡ true)
both_parts true true e = (refl, refl)
both_parts true false e = (refl, e)
both_parts false b e = (e, cc)

pub and_true : (a b : Bool) → a ≡ true → b ≡ true → a && b ≡ true
and_true a b p q = λ i. p i && q i

equal_terms : (t u : Term) → same_term t u ≡ true → t ≡ u
equal_terms (number m) (number n) e = ap number ((Decides-int_eq m n).0 e)
equal_terms (constant s) (constant t) e = ap constant (eqb-true s t e)
equal_terms (unary s a) (unary t b) e =
    let h = both_parts (s == t) (same_term a b) e in
    λ i. unary (eqb-true s t h.0 i) (equal_terms a b h.1 i)
equal_terms (binary s a b) (binary t c d) e =
    let h = both_parts (s == t) (same_term a c && same_term b d) e in
    let k = both_parts (same_term a c) (same_term b d) h.1 in
    λ i. binary (eqb-true s t h.0 i) (equal_terms a c k.0 i) (equal_terms b d k.1 i)
equal_terms (ternary s a b c) (ternary t d f g) e =
    let h = both_parts (s == t) (same_term a d && (same_term b f && same_term c g)) e in
    let k = both_parts (same_term a d) (same_term b f && same_term c g) h.1 in
    let l = both_parts (same_term b f) (same_term c g) k.1 in
    λ i. ternary (eqb-true s t h.0 i) (equal_terms a d k.0 i) (equal_terms b f l.0 i) (equal_terms c g l.1 i)
equal_terms t u e = cc

same_itself : (t : Term) → same_term t t ≡ true
same_itself (number n) = (Decides-int_eq n n).1 refl
same_itself (constant s) = eq-eqb s s refl
same_itself (unary s a) = and_true _ _ (eq-eqb s s refl) (same_itself a)
same_itself (binary s a b) = and_true _ _ (eq-eqb s s refl) (and_true _ _ (same_itself a) (same_itself b))
same_itself (ternary s a b c) = and_true _ _ (eq-eqb s s refl) (and_true _ _ (same_itself a) (and_true _ _ (same_itself b) (same_itself c)))

pub Decides-same_term : (t u : Term) → Decides (same_term t u) (t ≡ u)
Decides-same_term t u = (equal_terms t u, λ e. ap (same_term t) (sym e) ∙ same_itself t)

equal_operations : (o p : Operation) → same_operation o p ≡ true → o ≡ p
equal_operations (product x y) (product z w) e = let h = both_parts (same_term x z) (same_term y w) e in λ i. product (equal_terms x z h.0 i) (equal_terms y w h.1 i)
equal_operations (quotient x y) (quotient z w) e = let h = both_parts (same_term x z) (same_term y w) e in λ i. quotient (equal_terms x z h.0 i) (equal_terms y w h.1 i)
equal_operations (remainder x y) (remainder z w) e = let h = both_parts (same_term x z) (same_term y w) e in λ i. remainder (equal_terms x z h.0 i) (equal_terms y w h.1 i)
equal_operations (division x y) (division z w) e = let h = both_parts (same_term x z) (same_term y w) e in λ i. division (equal_terms x z h.0 i) (equal_terms y w h.1 i)
equal_operations o p e = cc

same_as_itself : (o : Operation) → same_operation o o ≡ true
same_as_itself (product x y) = and_true _ _ (same_itself x) (same_itself y)
same_as_itself (quotient x y) = and_true _ _ (same_itself x) (same_itself y)
same_as_itself (remainder x y) = and_true _ _ (same_itself x) (same_itself y)
same_as_itself (division x y) = and_true _ _ (same_itself x) (same_itself y)

pub Decides-same_operation : (o p : Operation) → Decides (same_operation o p) (o ≡ p)
Decides-same_operation o p = (equal_operations o p, λ e. ap (same_operation o) (sym e) ∙ same_as_itself o)
