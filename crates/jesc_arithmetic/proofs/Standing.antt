-- The operations in formulas are those of the terms that stand there.
use Rattle.std.proofs.Common.{◌≡◌, List, [], ◌∷◌, ◌++◌, All, Contains, ◌⊎◌, inl, inr, refl, sym, arith}
use Rattle.std.specs.List.{flat_map, filter_map}
use Rattle.std.proofs.lemmas.List.Elements.{All-nil, All-cons, All-append, All-weaker, All-contains, All-contains_itself, Contains-append_left, Contains-append_right}
use Rattle.jesc_logic.specs.Terms.{Term, number, constant, unary, binary, ternary}
use Rattle.jesc_logic.specs.Claims.{Claim, truth, falsity, at_most, equal, negation, both, either}
use Rattle.jesc_arithmetic.specs.Operations.{Operation, operation_of, same_operation}
use Rattle.jesc_arithmetic.specs.Occurrences.{terms_within, terms_in, operations_in, StandsIn, StandsInClaim, HasOperation}
use Rattle.jesc_arithmetic.proofs.Listing.{All-flat_map, All-filter_map, Contains-flat_map, Contains-filter_map}
use Rattle.jesc_arithmetic.proofs.Gathering.{All-firsts, firsts_have}
use Rattle.jesc_arithmetic.proofs.Sameness.{Decides-same_operation}

-- ---- what is listed stands there

itself : (u t : Term) (P : Term → Type 0) → P u → All P (u ∷ [])
itself u t P p = All-cons P u [] p (All-nil P)

each_within : (u : Term) → All (λ t. StandsIn t u) (terms_within u)
each_within (number n) = itself (number n) (number n) (λ t. StandsIn t (number n)) refl
each_within (constant s) = itself (constant s) (constant s) (λ t. StandsIn t (constant s)) refl
each_within (unary s a) =
    All-append (λ t. StandsIn t (unary s a)) (terms_within a) (unary s a ∷ [])
    (All-weaker (λ t. StandsIn t a) (λ t. StandsIn t (unary s a)) (λ t h. inr h) (terms_within a) (each_within a))
    (itself (unary s a) a (λ t. StandsIn t (unary s a)) (inl refl))
each_within (binary s a b) =
    let P = λ (t : Term). StandsIn t (binary s a b) in
    All-append P (terms_within a) (terms_within b ++ binary s a b ∷ []) (All-weaker (λ t. StandsIn t a) P (λ t h. inr (inl h)) (terms_within a) (each_within a))
    (All-append P (terms_within b) (binary s a b ∷ []) (All-weaker (λ t. StandsIn t b) P (λ t h. inr (inr h)) (terms_within b) (each_within b))
    (itself (binary s a b) a P (inl refl)))
each_within (ternary s a b c) =
    let P = λ (t : Term). StandsIn t (ternary s a b c) in
    All-append P (terms_within a) (terms_within b ++ (terms_within c ++ ternary s a b c ∷ [])) (All-weaker (λ t. StandsIn t a) P (λ t h. inr (inl h)) (terms_within a) (each_within a))
    (All-append P (terms_within b) (terms_within c ++ ternary s a b c ∷ []) (All-weaker (λ t. StandsIn t b) P (λ t h. inr (inr (inl h))) (terms_within b) (each_within b))
    (All-append P (terms_within c) (ternary s a b c ∷ []) (All-weaker (λ t. StandsIn t c) P (λ t h. inr (inr (inr h))) (terms_within c) (each_within c))
    (itself (ternary s a b c) a P (inl refl))))

either_side : (P : Term → Type 0) (Q : Term → Type 0) (ts us : List Term) → All P ts → All Q us → All (λ t. P t ⊎ Q t) (ts ++ us)
either_side P Q ts us h k = All-append (λ t. P t ⊎ Q t) ts us (All-weaker P (λ t. P t ⊎ Q t) (λ t p. inl p) ts h) (All-weaker Q (λ t. P t ⊎ Q t) (λ t q. inr q) us k)

each_in : (f : Claim Term) → All (λ t. StandsInClaim t f) (terms_in f)
each_in truth = All-nil (λ t. ⊥)
each_in falsity = All-nil (λ t. ⊥)
each_in (at_most a b) = either_side (λ t. StandsIn t a) (λ t. StandsIn t b) (terms_within a) (terms_within b) (each_within a) (each_within b)
each_in (equal a b) = either_side (λ t. StandsIn t a) (λ t. StandsIn t b) (terms_within a) (terms_within b) (each_within a) (each_within b)
each_in (negation f) = each_in f
each_in (both f g) = either_side (λ t. StandsInClaim t f) (λ t. StandsInClaim t g) (terms_in f) (terms_in g) (each_in f) (each_in g)
each_in (either f g) = either_side (λ t. StandsInClaim t f) (λ t. StandsInClaim t g) (terms_in f) (terms_in g) (each_in f) (each_in g)

-- the term stands in one of the formulas
record StandsAmong (claims : List (Claim Term)) (t : Term) : Type 0 where
  formula : Claim Term
  among : Contains claims formula
  stands : StandsInClaim t formula

each_among : (claims : List (Claim Term)) → All (StandsAmong claims) (flat_map terms_in claims)
each_among claims =
    All-flat_map (Contains claims) (StandsAmong claims) terms_in
    (λ f p. All-weaker (λ t. StandsInClaim t f) (StandsAmong claims) (λ t h. record { formula = f; among = p; stands = h }) (terms_in f) (each_in f)) claims (All-contains_itself claims)

each_operation : (claims : List (Claim Term)) → All (HasOperation claims) (operations_in claims)
each_operation claims =
    All-firsts same_operation (HasOperation claims) (filter_map operation_of (flat_map terms_in claims))
    (All-filter_map (StandsAmong claims) (HasOperation claims) operation_of (λ t o h e. record { formula = h.formula; among = h.among; term = t; stands = h.stands; is = e }) (flat_map terms_in claims) (each_among claims))

pub operation_stands : (claims : List (Claim Term)) (o : Operation) → Contains (operations_in claims) o → HasOperation claims o
operation_stands claims o h = All-contains (HasOperation claims) (operations_in claims) o (each_operation claims) h

-- ---- what stands there is listed

last : (us : List Term) (t u : Term) → t ≡ u → Contains (us ++ u ∷ []) t
last us t u e = Contains-append_right us (u ∷ []) t (0, omega arith, sym e)

within : (t u : Term) → StandsIn t u → Contains (terms_within u) t
within t (number n) e = last [] t (number n) e
within t (constant s) e = last [] t (constant s) e
within t (unary s a) (inl e) = last (terms_within a) t (unary s a) e
within t (unary s a) (inr h) = Contains-append_left (terms_within a) (unary s a ∷ []) t (within t a h)
within t (binary s a b) (inl e) = Contains-append_right (terms_within a) (terms_within b ++ binary s a b ∷ []) t (last (terms_within b) t (binary s a b) e)
within t (binary s a b) (inr (inl h)) = Contains-append_left (terms_within a) (terms_within b ++ binary s a b ∷ []) t (within t a h)
within t (binary s a b) (inr (inr h)) = Contains-append_right (terms_within a) (terms_within b ++ binary s a b ∷ []) t (Contains-append_left (terms_within b) (binary s a b ∷ []) t (within t b h))
within t (ternary s a b c) (inl e) =
    Contains-append_right (terms_within a) (terms_within b ++ (terms_within c ++ ternary s a b c ∷ [])) t
    (Contains-append_right (terms_within b) (terms_within c ++ ternary s a b c ∷ []) t (last (terms_within c) t (ternary s a b c) e))
within t (ternary s a b c) (inr (inl h)) = Contains-append_left (terms_within a) (terms_within b ++ (terms_within c ++ ternary s a b c ∷ [])) t (within t a h)
within t (ternary s a b c) (inr (inr (inl h))) =
    Contains-append_right (terms_within a) (terms_within b ++ (terms_within c ++ ternary s a b c ∷ [])) t
    (Contains-append_left (terms_within b) (terms_within c ++ ternary s a b c ∷ []) t (within t b h))
within t (ternary s a b c) (inr (inr (inr h))) =
    Contains-append_right (terms_within a) (terms_within b ++ (terms_within c ++ ternary s a b c ∷ [])) t
    (Contains-append_right (terms_within b) (terms_within c ++ ternary s a b c ∷ []) t (Contains-append_left (terms_within c) (ternary s a b c ∷ []) t (within t c h)))

in_claim : (t : Term) (f : Claim Term) → StandsInClaim t f → Contains (terms_in f) t
in_claim t truth h = absurd h
in_claim t falsity h = absurd h
in_claim t (at_most a b) (inl h) = Contains-append_left (terms_within a) (terms_within b) t (within t a h)
in_claim t (at_most a b) (inr h) = Contains-append_right (terms_within a) (terms_within b) t (within t b h)
in_claim t (equal a b) (inl h) = Contains-append_left (terms_within a) (terms_within b) t (within t a h)
in_claim t (equal a b) (inr h) = Contains-append_right (terms_within a) (terms_within b) t (within t b h)
in_claim t (negation f) h = in_claim t f h
in_claim t (both f g) (inl h) = Contains-append_left (terms_in f) (terms_in g) t (in_claim t f h)
in_claim t (both f g) (inr h) = Contains-append_right (terms_in f) (terms_in g) t (in_claim t g h)
in_claim t (either f g) (inl h) = Contains-append_left (terms_in f) (terms_in g) t (in_claim t f h)
in_claim t (either f g) (inr h) = Contains-append_right (terms_in f) (terms_in g) t (in_claim t g h)

pub operation_listed : (claims : List (Claim Term)) (o : Operation) → HasOperation claims o → Contains (operations_in claims) o
operation_listed claims o h =
    let ts = flat_map terms_in claims in
    firsts_have same_operation Decides-same_operation (filter_map operation_of ts) o
    (Contains-filter_map operation_of ts h.term o (Contains-flat_map terms_in claims h.formula h.term h.among (in_claim h.term h.formula h.stands)) h.is)
