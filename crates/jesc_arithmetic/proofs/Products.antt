-- The bounds of a product.
use Rattle.std.proofs.Common.{◌≡◌, ℕ, suc, ◌*◌, ◌≤◌, ℤ, pos, negsuc, ◌*ℤ◌, ◌⊎◌, inl, inr, ap, ◌∙◌, arith}
use Rattle.std.specs.Prelude.{◌≤ℤ◌}
use Rattle.std.proofs.lemmas.Int.{ints}
use Rattle.std.proofs.lemmas.Nat.{mul-le}
use Rattle.std.proofs.Math.IntN.{*ℤ-zero, zero-*ℤ}

pub times_zero : (x y : ℤ) → (x ≡ pos 0) ⊎ (y ≡ pos 0) → x *ℤ y ≡ pos 0
times_zero x y (inl e) = ap (λ z. z *ℤ y) e ∙ zero-*ℤ y
times_zero x y (inr e) = ap (λ z. x *ℤ z) e ∙ *ℤ-zero x

pub at_least_factors : (a b : ℕ) → 1 ≤ a → 1 ≤ b → (a ≤ a * b) × (b ≤ a * b)
at_least_factors a b p q = (omega (arith, mul-le a 1 a b (omega arith) q), omega (arith, mul-le 1 b a b p (omega arith)))

pub both_positive : (x y : ℤ) → pos 1 ≤ℤ x → pos 1 ≤ℤ y → (x ≤ℤ (x *ℤ y)) × (y ≤ℤ (x *ℤ y))
both_positive (pos a) (pos b) p q = let h = at_least_factors a b (omega (arith, ints)) (omega (arith, ints)) in (omega (arith, ints, h.0), omega (arith, ints, h.1))
both_positive (negsuc a) y p q = absurd (omega (arith, ints))
both_positive (pos a) (negsuc b) p q = absurd (omega (arith, ints))

pub both_negative : (x y : ℤ) → x ≤ℤ negsuc 0 → y ≤ℤ negsuc 0 → ((negsuc 0 *ℤ x) ≤ℤ (x *ℤ y)) × ((negsuc 0 *ℤ y) ≤ℤ (x *ℤ y))
both_negative (negsuc a) (negsuc b) p q = let h = at_least_factors (suc a) (suc b) (omega arith) (omega arith) in (omega (arith, ints, h.0), omega (arith, ints, h.1))
both_negative (pos a) y p q = absurd (omega (arith, ints))
both_negative (negsuc a) (pos b) p q = absurd (omega (arith, ints))

pub first_positive : (x y : ℤ) → pos 1 ≤ℤ x → y ≤ℤ negsuc 0 → ((x *ℤ y) ≤ℤ (negsuc 0 *ℤ x)) × ((x *ℤ y) ≤ℤ y)
first_positive (pos a) (negsuc b) p q = let h = at_least_factors a (suc b) (omega (arith, ints)) (omega arith) in (omega (arith, ints, h.0), omega (arith, ints, h.1))
first_positive (negsuc a) y p q = absurd (omega (arith, ints))
first_positive (pos a) (pos b) p q = absurd (omega (arith, ints))

pub first_negative : (x y : ℤ) → x ≤ℤ negsuc 0 → pos 1 ≤ℤ y → ((x *ℤ y) ≤ℤ x) × ((x *ℤ y) ≤ℤ (negsuc 0 *ℤ y))
first_negative (negsuc a) (pos b) p q = let h = at_least_factors (suc a) b (omega arith) (omega (arith, ints)) in (omega (arith, ints, h.0), omega (arith, ints, h.1))
first_negative (pos a) y p q = absurd (omega (arith, ints))
first_negative (negsuc a) (negsuc b) p q = absurd (omega (arith, ints))
