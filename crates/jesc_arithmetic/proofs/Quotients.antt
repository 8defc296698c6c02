-- The bounds of a quotient and of a remainder.
use Rattle.std.proofs.Common.{◌≢◌, suc, ℤ, pos, negsuc, ◌*ℤ◌, arith}
use Rattle.std.specs.Prelude.{◌≤ℤ◌, int_div, int_rem, unsigned_abs}
use Rattle.std.proofs.lemmas.Int.{ints}
use Rattle.std.proofs.lemmas.Nat.{mod_below}
use Rattle.std.proofs.Math.Nat.{div-le_self, mod-le}

pub divided_up : (x y : ℤ) → pos 1 ≤ℤ y → pos 0 ≤ℤ x → (pos 0 ≤ℤ int_div x y) × (int_div x y ≤ℤ x)
divided_up (pos a) (pos b) p q = (omega (arith, ints, div-le_self a b), omega (arith, ints, div-le_self a b))
divided_up (negsuc a) y p q = absurd (omega (arith, ints))
divided_up (pos a) (negsuc b) p q = absurd (omega (arith, ints))

pub divided_down : (x y : ℤ) → pos 1 ≤ℤ y → x ≤ℤ pos 0 → (x ≤ℤ int_div x y) × (int_div x y ≤ℤ pos 0)
divided_down (pos a) (pos b) p q = (omega (arith, ints, div-le_self a b), omega (arith, ints, div-le_self a b))
divided_down (negsuc a) (pos b) p q = (omega (arith, ints, div-le_self (suc a) b), omega (arith, ints, div-le_self (suc a) b))
divided_down x (negsuc b) p q = absurd (omega (arith, ints))

pub turned_down : (x y : ℤ) → y ≤ℤ negsuc 0 → pos 0 ≤ℤ x → ((negsuc 0 *ℤ x) ≤ℤ int_div x y) × (int_div x y ≤ℤ pos 0)
turned_down (pos a) (negsuc b) p q = (omega (arith, ints, div-le_self a (suc b)), omega (arith, ints, div-le_self a (suc b)))
turned_down (negsuc a) y p q = absurd (omega (arith, ints))
turned_down (pos a) (pos b) p q = absurd (omega (arith, ints))

pub turned_up : (x y : ℤ) → y ≤ℤ negsuc 0 → x ≤ℤ pos 0 → (pos 0 ≤ℤ int_div x y) × (int_div x y ≤ℤ (negsuc 0 *ℤ x))
turned_up (pos a) (negsuc b) p q = (omega (arith, ints, div-le_self a (suc b)), omega (arith, ints, div-le_self a (suc b)))
turned_up (negsuc a) (negsuc b) p q = (omega (arith, ints, div-le_self (suc a) (suc b)), omega (arith, ints, div-le_self (suc a) (suc b)))
turned_up x (pos b) p q = absurd (omega (arith, ints))

pub left_up : (x y : ℤ) → y ≢ pos 0 → pos 0 ≤ℤ x → (pos 0 ≤ℤ int_rem x y) × (int_rem x y ≤ℤ x)
left_up (pos a) y p q = (omega (arith, ints, mod-le a (unsigned_abs y)), omega (arith, ints, mod-le a (unsigned_abs y)))
left_up (negsuc a) y p q = absurd (omega (arith, ints))

pub left_down : (x y : ℤ) → y ≢ pos 0 → x ≤ℤ pos 0 → (x ≤ℤ int_rem x y) × (int_rem x y ≤ℤ pos 0)
left_down (pos a) y p q = (omega (arith, ints, mod-le a (unsigned_abs y)), omega (arith, ints, mod-le a (unsigned_abs y)))
left_down (negsuc a) y p q = (omega (arith, ints, mod-le (suc a) (unsigned_abs y)), omega (arith, ints, mod-le (suc a) (unsigned_abs y)))

pub left_below : (x y : ℤ) → pos 1 ≤ℤ y → (¬ (int_rem x y ≤ℤ (negsuc 0 *ℤ y))) × (¬ (y ≤ℤ int_rem x y))
left_below (pos a) (pos b) p = (λ h. omega (arith, ints, mod_below a b (omega (arith, ints))), λ h. omega (arith, ints, mod_below a b (omega (arith, ints))))
left_below (negsuc a) (pos b) p = (λ h. omega (arith, ints, mod_below (suc a) b (omega (arith, ints))), λ h. omega (arith, ints, mod_below (suc a) b (omega (arith, ints))))
left_below x (negsuc b) p = absurd (omega (arith, ints))

pub left_below_turned : (x y : ℤ) → y ≤ℤ negsuc 0 → (¬ (int_rem x y ≤ℤ y)) × (¬ ((negsuc 0 *ℤ y) ≤ℤ int_rem x y))
left_below_turned (pos a) (negsuc b) p = (λ h. omega (arith, ints, mod_below a (suc b) (omega arith)), λ h. omega (arith, ints, mod_below a (suc b) (omega arith)))
left_below_turned (negsuc a) (negsuc b) p = (λ h. omega (arith, ints, mod_below (suc a) (suc b) (omega arith)), λ h. omega (arith, ints, mod_below (suc a) (suc b) (omega arith)))
left_below_turned x (pos b) p = absurd (omega (arith, ints))
