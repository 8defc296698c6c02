-- The operations of which facts are known, and whether terms and operations are the same.
use Rattle.std.specs.Prelude.{ℕ, zero, suc, ◌==◌, Bool, true, false, ◌&&◌, ◌||◌, not, pos, Option, Some, None, if◌then◌else◌}
use Rattle.std.specs.Ordering.{int_eq}
use Rattle.jesc_logic.specs.Terms.{Term, number, constant, unary, binary, ternary}

-- A product of two terms neither of which is a number; a quotient or a remainder. Of a division by a number other than 0
-- the quotient and the remainder are known together.
pub data Operation : Type 0 where
  product : (x y : Term) → Operation
  quotient : (x y : Term) → Operation
  remainder : (x y : Term) → Operation
  division : (x y : Term) → Operation

abbrev pub is_number : Term → Bool
is_number (number n) = true
is_number (constant symbol) = false
is_number (unary symbol a) = false
is_number (binary symbol a b) = false
is_number (ternary symbol a b c) = false

-- whether the term is a number other than 0
abbrev pub is_divisor : Term → Bool
is_divisor (number n) = not (int_eq n (pos 0))
is_divisor (constant symbol) = false
is_divisor (unary symbol a) = false
is_divisor (binary symbol a b) = false
is_divisor (ternary symbol a b c) = false

-- symbols 1 to 3 are product, quotient and remainder
abbrev pub operation_of_two : ℕ → Term → Term → Option Operation
operation_of_two zero x y = None
operation_of_two (suc zero) x y = if is_number x || is_number y then None else Some (product x y)
operation_of_two (suc (suc zero)) x y = Some (if is_divisor y then division x y else quotient x y)
operation_of_two (suc (suc (suc zero))) x y = Some (if is_divisor y then division x y else remainder x y)
operation_of_two (suc (suc (suc (suc n)))) x y = None

-- the operation of which the term is the result
abbrev pub operation_of : Term → Option Operation
operation_of (number n) = None
operation_of (constant symbol) = None
operation_of (unary symbol a) = None
operation_of (binary symbol a b) = operation_of_two symbol a b
operation_of (ternary symbol a b c) = None

abbrev pub same_term : Term → Term → Bool
same_term (number m) (number n) = int_eq m n
same_term (constant s) (constant t) = s == t
same_term (unary s a) (unary t b) = s == t && same_term a b
same_term (binary s a b) (binary t c d) = s == t && (same_term a c && same_term b d)
same_term (ternary s a b c) (ternary t d e f) = s == t && (same_term a d && (same_term b e && same_term c f))
same_term t u = false

abbrev pub same_operation : Operation → Operation → Bool
same_operation (product x y) (product z w) = same_term x z && same_term y w
same_operation (quotient x y) (quotient z w) = same_term x z && same_term y w
same_operation (remainder x y) (remainder z w) = same_term x z && same_term y w
same_operation (division x y) (division z w) = same_term x z && same_term y w
same_operation o p = false
