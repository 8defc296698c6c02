-- Divisors of the coefficients of a form that grows at its end.
use Rattle.std.proofs.Common.{◌≡◌, ◌≢◌, ℕ, zero, suc, ◌*◌, ◌<◌, ◌≤◌, ◌^◌, [], ◌∷◌, ◌++◌, length, get_or, ℤ, pos, negsuc, refl, sym, ap, ◌∙◌, arith}
use Rattle.std.proofs.lemmas.Nat.Gcd.{dvd_trans, le_of_dvd, mod-eq-zero_of_dvd}
use Rattle.std.proofs.lemmas.Int.{ints, quot-rem, unsigned_abs-mul}
use Rattle.std.proofs.Math.IntN.{◌*ℤ◌, neg_ℤ, *ℤ_comm}
use Rattle.std.specs.Prelude.{unsigned_abs, int_div, int_rem}
use Rattle.std.specs.Int.{◌∣◌, IsGcd}
use Rattle.jesc_linear.specs.Forms.{Form}
use Rattle.jesc_clauses.specs.Normals.{Divides, scaled}

pub divides_push : (d : ℕ) (f : Form) (part : ℤ × ℕ) → Divides d f → d ∣ unsigned_abs part.0 → Divides d (f ++ part ∷ [])
divides_push d [] part h p = (p, tt)
divides_push d (x ∷ f) part h p = (h.0, divides_push d f part h.1 p)

pub divides_front : (d : ℕ) (f : Form) (part : ℤ × ℕ) → Divides d (f ++ part ∷ []) → Divides d f × (d ∣ unsigned_abs part.0)
divides_front d [] part h = (tt, h.0)
divides_front d (x ∷ f) part h = let r = divides_front d f part h.1 in ((h.0, r.0), r.1)

pub divides_less : (d e : ℕ) (f : Form) → d ∣ e → Divides e f → Divides d f
divides_less d e [] p h = tt
divides_less d e (x ∷ f) p h = (dvd_trans d p h.0, divides_less d e f p h.1)

pub positive_divisor : (d n : ℕ) → d ∣ n → 0 < n → 0 < d
positive_divisor zero n h p = let e = mod-eq-zero_of_dvd zero h in grind (arith, e)
positive_divisor (suc d) n h p = omega arith

nonzero_abs : (z : ℤ) → z ≢ pos 0 → 0 < unsigned_abs z
nonzero_abs (pos zero) h = absurd (h refl)
nonzero_abs (pos (suc n)) h = omega arith
nonzero_abs (negsuc n) h = omega arith

-- one more part: what the loop keeps
pub record Divisor (f : Form) (d : ℕ) : Type 0 where
  pub divides : Divides d f
  pub greatest : (e : ℕ) → Divides e f → e ∣ d

pub next_divisor : (f : Form) (d g : ℕ) (part : ℤ × ℕ) → Divisor f d → IsGcd d (unsigned_abs part.0) g → Divisor (f ++ part ∷ []) g
next_divisor f d g part h i = record {
  divides = divides_push g f part (divides_less g d f i.0 h.divides) i.1;
  greatest = λ e k. let r = divides_front e f part k in i.2 e (h.greatest e r.0) r.1;
}

pub next_bounds : (d g : ℕ) (c : ℤ) → IsGcd d (unsigned_abs c) g → c ≢ pos 0 → unsigned_abs c ≤ 2 ^ 33 → (0 < g) × (g ≤ 2 ^ 33)
next_bounds d g c i nonzero short =
    let p = nonzero_abs c nonzero in
    let q = le_of_dvd {m = g} {n = unsigned_abs c} p i.1 in
    (positive_divisor g (unsigned_abs c) i.1 p, omega (arith, q))

-- an exact quotient
rem_none : (c d : ℤ) → unsigned_abs d ∣ unsigned_abs c → int_rem c d ≡ pos 0
rem_none (pos a) d h = ap pos (mod-eq-zero_of_dvd (unsigned_abs d) h)
rem_none (negsuc a) d h = ap (λ n. neg_ℤ (pos n)) (mod-eq-zero_of_dvd (unsigned_abs d) h)

pub exact_quotient : (c d : ℤ) → unsigned_abs d ∣ unsigned_abs c → d *ℤ int_div c d ≡ c
exact_quotient c d h = omega (arith, ints, quot-rem c d, rem_none c d h, *ℤ_comm d (int_div c d))

pub scaled_push : (d : ℤ) (f : Form) (part : ℤ × ℕ) → scaled d (f ++ part ∷ []) ≡ scaled d f ++ (d *ℤ part.0, part.1) ∷ []
scaled_push d [] part = refl
scaled_push d (x ∷ f) part = ap (λ (g : Form). (d *ℤ x.0, x.1) ∷ g) (scaled_push d f part)

pub divides_at : (d : ℕ) (f : Form) (k : ℕ) (e : ℤ × ℕ) → Divides d f → k < length f → d ∣ unsigned_abs (get_or f k e).0
divides_at d [] k e h p = absurd (omega arith)
divides_at d (x ∷ f) zero e h p = h.0
divides_at d (x ∷ f) (suc k) e h p = divides_at d f k e h.1 (omega arith)

no_less : (d q : ℕ) → 0 < d → q ≤ d * q
no_less d q h = grind arith

-- an exact quotient is no larger than the number
pub quotient_small : (c d : ℤ) → d ≢ pos 0 → unsigned_abs d ∣ unsigned_abs c → unsigned_abs (int_div c d) ≤ unsigned_abs c
quotient_small c d some h =
    let e = sym (unsigned_abs-mul d (int_div c d)) ∙ ap unsigned_abs (exact_quotient c d h) in
    let k = no_less (unsigned_abs d) (unsigned_abs (int_div c d)) (nonzero_abs d some) in
    omega (arith, e, k)
