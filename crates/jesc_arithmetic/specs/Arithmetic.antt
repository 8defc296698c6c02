-- What is known of products, quotients and remainders, which are no sums of their parts. Division truncates.
use Rattle.std.specs.Prelude.{pos, negsuc, List, [], ◌∷◌, ◌++◌}
use Rattle.std.specs.List.{flat_map}
use Rattle.jesc_logic.specs.Terms.{Term, number, binary}
use Rattle.jesc_logic.specs.Claims.{Claim, at_most, equal, negation, both, either}
use Rattle.jesc_arithmetic.specs.Operations.{Operation, product, quotient, remainder, division}
use Rattle.jesc_arithmetic.specs.Occurrences.{operations_in}

-- ---- terms: symbols 0 to 3 are sum, product, quotient and remainder

abbrev pub sum_of : Term → Term → Term
sum_of x y = binary 0 x y

abbrev pub product_of : Term → Term → Term
product_of x y = binary 1 x y

abbrev pub quotient_of : Term → Term → Term
quotient_of x y = binary 2 x y

abbrev pub remainder_of : Term → Term → Term
remainder_of x y = binary 3 x y

abbrev pub none : Term
none = number (pos 0)

abbrev pub one : Term
one = number (pos 1)

abbrev pub minus_one : Term
minus_one = number (negsuc 0)

abbrev pub minus : Term → Term
minus x = product_of minus_one x

-- ---- formulas

abbrev pub if_then : Claim Term → Claim Term → Claim Term
if_then f g = either (negation f) g

abbrev pub below : Term → Term → Claim Term
below x y = negation (at_most y x)

abbrev pub is_not : Term → Term → Claim Term
is_not x y = negation (equal x y)

-- ---- the facts

-- p is x * y
abbrev pub product_facts : Term → Term → Term → List (Claim Term)
product_facts x y p =
    if_then (either (equal x none) (equal y none)) (equal p none)
    ∷ if_then (both (at_most one x) (at_most one y)) (both (at_most x p) (at_most y p))
    ∷ if_then (both (at_most x minus_one) (at_most y minus_one)) (both (at_most (minus x) p) (at_most (minus y) p))
    ∷ if_then (both (at_most one x) (at_most y minus_one)) (both (at_most p (minus x)) (at_most p y))
    ∷ if_then (both (at_most x minus_one) (at_most one y)) (both (at_most p x) (at_most p (minus y)))
    ∷ []

-- q is x / y
abbrev pub quotient_facts : Term → Term → Term → List (Claim Term)
quotient_facts x y q =
    if_then (both (at_most one y) (at_most none x)) (both (at_most none q) (at_most q x))
    ∷ if_then (both (at_most one y) (at_most x none)) (both (at_most x q) (at_most q none))
    ∷ if_then (both (at_most y minus_one) (at_most none x)) (both (at_most (minus x) q) (at_most q none))
    ∷ if_then (both (at_most y minus_one) (at_most x none)) (both (at_most none q) (at_most q (minus x)))
    ∷ []

-- r is x % y
abbrev pub remainder_facts : Term → Term → Term → List (Claim Term)
remainder_facts x y r =
    if_then (both (is_not y none) (at_most none x)) (both (at_most none r) (at_most r x))
    ∷ if_then (both (is_not y none) (at_most x none)) (both (at_most x r) (at_most r none))
    ∷ if_then (at_most one y) (both (below (minus y) r) (below r y))
    ∷ if_then (at_most y minus_one) (both (below y r) (below r (minus y)))
    ∷ []

-- y * (x / y) + x % y
abbrev pub whole_of : Term → Term → Term
whole_of x y = sum_of (product_of y (quotient_of x y)) (remainder_of x y)

abbrev pub division_fact : Term → Term → Claim Term
division_fact x y = equal x (whole_of x y)

abbrev pub facts_of : Operation → List (Claim Term)
facts_of (product x y) = product_facts x y (product_of x y)
facts_of (quotient x y) = quotient_facts x y (quotient_of x y)
facts_of (remainder x y) = remainder_facts x y (remainder_of x y)
facts_of (division x y) = division_fact x y ∷ (quotient_facts x y (quotient_of x y) ++ remainder_facts x y (remainder_of x y))

-- the facts of each operation that stands in the formulas
abbrev pub arithmetic_facts : List (Claim Term) → List (Claim Term)
arithmetic_facts claims = flat_map facts_of (operations_in claims)
