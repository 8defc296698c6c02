-- What terms are worth in a structure, and what is true there.
use Rattle.std.specs.Prelude.{ℕ, zero, suc, ◌+◌, ◌==◌, Bool, true, false, ◌&&◌, ◌||◌, not, ℤ, pos, ◌+ℤ◌, ◌*ℤ◌, int_le, int_div, int_rem, List, [], ◌∷◌, map, if◌then◌else◌}
use Rattle.std.specs.Ordering.{int_eq}
use Rattle.std.specs.Cmp.Lexicographic.{pointwise}
use Rattle.jesc_logic.specs.Terms.{Term, number, constant, unary, binary, ternary}
use Rattle.jesc_logic.specs.Claims.{Claim, truth, falsity, at_most, equal, negation, both, either, over}

-- a finite map from a symbol and a list of whole numbers to a whole number; the first entry counts
abbrev pub Structure : Type 0
Structure = List (ℕ × List ℤ × ℤ)

-- what the map doesn't hold reads as 0
abbrev pub read : Structure → ℕ → List ℤ → ℤ
read [] symbol xs = pos 0
read (entry ∷ rest) symbol xs = if (entry.0 == symbol) && pointwise int_eq entry.1 xs then entry.2 else read rest symbol xs

-- Division truncates, and by 0 it gives 0.
abbrev pub quotient : ℤ → ℤ → ℤ
quotient x y = if int_eq y (pos 0) then pos 0 else int_div x y

abbrev pub remainder : ℤ → ℤ → ℤ
remainder x y = if int_eq y (pos 0) then pos 0 else int_rem x y

-- symbols 0 to 3 are sum, product, quotient and remainder
abbrev pub of_two : Structure → ℕ → ℤ → ℤ → ℤ
of_two s zero x y = x +ℤ y
of_two s (suc zero) x y = x *ℤ y
of_two s (suc (suc zero)) x y = quotient x y
of_two s (suc (suc (suc zero))) x y = remainder x y
of_two s (suc (suc (suc (suc n)))) x y = read s (suc (suc (suc (suc n)))) (x ∷ y ∷ [])

abbrev pub value : Structure → Term → ℤ
value s (number n) = n
value s (constant symbol) = read s symbol []
value s (unary symbol a) = read s symbol (value s a ∷ [])
value s (binary symbol a b) = of_two s symbol (value s a) (value s b)
value s (ternary symbol a b c) = read s symbol (value s a ∷ value s b ∷ value s c ∷ [])

-- the structure that gives the symbols from `symbol` on, without arguments, these whole numbers
abbrev pub with_values : ℕ → List ℤ → Structure → Structure
with_values symbol [] s = s
with_values symbol (x ∷ xs) s = (symbol, [], x) ∷ with_values (symbol + 1) xs s

-- whether the formula over whole numbers is true
abbrev pub holds : Claim ℤ → Bool
holds truth = true
holds falsity = false
holds (at_most x y) = int_le x y
holds (equal x y) = int_eq x y
holds (negation f) = not (holds f)
holds (both f g) = holds f && holds g
holds (either f g) = holds f || holds g

-- whether the formula over terms is true in the structure
abbrev pub is_true : Structure → Claim Term → Bool
is_true s f = holds (over (value s) f)

-- the structure in which the variables of a fact are what the terms are worth
abbrev pub assigned : Structure → List Term → Structure
assigned s args = with_values 32 (map (value s) args) s
