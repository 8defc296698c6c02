-- Quotients rounded down.
use Rattle.std.proofs.Common.{ℕ, ◌+◌, ◌*◌, ◌/◌, ◌≤◌, ◌<◌, ℤ, pos, negsuc, arith}
use Rattle.std.proofs.lemmas.Int.{ints}
use Rattle.std.proofs.Math.IntN.{◌*ℤ◌, pos-*ℤ-pos, pos-*ℤ-negsuc}
use Rattle.std.specs.Prelude.{◌≤ℤ◌}
use Rattle.std.specs.Int.{int_div_euclid}

natural_greatest : (d n a : ℕ) → 0 < d → d * n ≤ a → n ≤ a / d
natural_greatest d n a p h = grind arith

natural_least : (d m a : ℕ) → 0 < d → a < d * (m + 1) → a / d ≤ m
natural_least d m a p h = grind arith

natural_multiple : (d a : ℕ) → 0 < d → d * (a / d) ≤ a
natural_multiple d a p = grind arith

natural_next : (d a : ℕ) → 0 < d → a < d * (a / d + 1)
natural_next d a p = grind arith

-- the quotient rounded down is the greatest number whose multiple is no more
pub quotient_is_greatest : (d x s : ℤ) → pos 1 ≤ℤ d → (d *ℤ x) ≤ℤ s → x ≤ℤ int_div_euclid s d
quotient_is_greatest (pos d) (pos n) (pos a) p h =
    let q = natural_greatest d n a (omega (arith, ints)) (omega (arith, ints, pos-*ℤ-pos d n)) in omega (arith, ints)
quotient_is_greatest (pos d) (negsuc n) (pos a) p h = omega (arith, ints)
quotient_is_greatest (pos d) (pos n) (negsuc a) p h = absurd (omega (arith, ints, pos-*ℤ-pos d n))
quotient_is_greatest (pos d) (negsuc m) (negsuc a) p h =
    let q = natural_least d m a (omega (arith, ints)) (omega (arith, ints, pos-*ℤ-negsuc d m)) in omega (arith, ints)
quotient_is_greatest (negsuc d) x s p h = absurd (omega (arith, ints))

-- and its multiple is no more than the number
pub quotient_multiple : (d s : ℤ) → pos 1 ≤ℤ d → (d *ℤ int_div_euclid s d) ≤ℤ s
quotient_multiple (pos d) (pos a) p =
    let q : d * (a / d) ≤ a = natural_multiple d a (omega (arith, ints)) in omega (arith, ints, pos-*ℤ-pos d (a / d))
quotient_multiple (pos d) (negsuc a) p =
    let q : a < d * (a / d + 1) = natural_next d a (omega (arith, ints)) in omega (arith, ints, pos-*ℤ-negsuc d (a / d))
quotient_multiple (negsuc d) s p = absurd (omega (arith, ints))
