-- Turned forms, sizes of quotients and first parts.
use Rattle.std.proofs.Common.{◌≡◌, ℕ, ◌+◌, ◌≤◌, [], ◌∷◌, Some, slice_get, ℤ, pos, negsuc, refl, ◌∙◌, subst, arith}
use Rattle.std.proofs.lemmas.Int.{ints, unsigned_abs-mul}
use Rattle.std.proofs.Math.IntN.{◌*ℤ◌, neg_ℤ, *ℤ_comm}
use Rattle.std.proofs.Math.Nat.{div-le_self}
use Rattle.std.proofs.lemmas.List.Elements.{All-nil, All-cons, All-head, All-tail}
use Rattle.std.specs.Prelude.{◌<ℤ◌, ◌≤ℤ◌, unsigned_abs, All}
use Rattle.std.specs.Int.{◌∣◌, int_div_euclid}
use Rattle.jesc_linear.specs.Forms.{Form, RisesFrom, IsNonzero, IsForm}
use Rattle.jesc_clauses.specs.Normals.{scaled, Divides, IsFirstPositive}
use Rattle.jesc_clauses.proofs.Exact.{minus_one_times, times_minus}

pub abs_within : (d : ℤ) (n : ℕ) → pos 1 ≤ℤ d → d ≤ℤ pos n → unsigned_abs d ≤ n
abs_within (pos a) n p h = omega (arith, ints)
abs_within (negsuc a) n p h = absurd (omega (arith, ints))

pub quotient_size : (b d : ℤ) → pos 1 ≤ℤ d → unsigned_abs (int_div_euclid b d) ≤ unsigned_abs b
quotient_size (pos a) (pos n) p = div-le_self a n
quotient_size (negsuc a) (pos n) p = let h = div-le_self a n in omega (arith, h)
quotient_size b (negsuc n) p = absurd (omega (arith, ints))

pub first_is : (f : Form) (part : ℤ × ℕ) → Some part ≡ slice_get f 0 → pos 0 <ℤ part.0 → IsFirstPositive f
first_is [] part e p = cc
first_is (x ∷ f) part e p = let same : part ≡ x = cc in subst (λ (y : ℤ × ℕ). pos 0 <ℤ y.0) same p

twice : (d c : ℤ) → neg_ℤ (pos 1) *ℤ (neg_ℤ d *ℤ c) ≡ d *ℤ c
twice d c = omega (arith, ints, minus_one_times (neg_ℤ d *ℤ c), *ℤ_comm (neg_ℤ d) c, times_minus c d, *ℤ_comm c d)

pub turned_back : (d : ℤ) (f : Form) → scaled (neg_ℤ (pos 1)) (scaled (neg_ℤ d) f) ≡ scaled d f
turned_back d [] = refl
turned_back d (part ∷ f) = λ i. (twice d part.0 i, part.1) ∷ turned_back d f i

rises_turned : (low : ℕ) (f : Form) → RisesFrom low f → RisesFrom low (scaled (neg_ℤ (pos 1)) f)
rises_turned low [] h = tt
rises_turned low (part ∷ f) h = (h.0, rises_turned (part.1 + 1) f h.1)

nonzero_turned : (f : Form) → All IsNonzero f → All IsNonzero (scaled (neg_ℤ (pos 1)) f)
nonzero_turned [] all = All-nil IsNonzero
nonzero_turned (part ∷ f) all =
    All-cons IsNonzero (neg_ℤ (pos 1) *ℤ part.0, part.1) (scaled (neg_ℤ (pos 1)) f)
    (λ e. All-head IsNonzero part f all (omega (arith, ints, e, minus_one_times part.0)))
    (nonzero_turned f (All-tail IsNonzero part f all))

pub form_turned : (f : Form) → IsForm f → IsForm (scaled (neg_ℤ (pos 1)) f)
form_turned f h = record { rises = rises_turned 0 f h.rises; nonzero = nonzero_turned f h.nonzero }

pub divides_turned : (e : ℕ) (f : Form) → Divides e (scaled (neg_ℤ (pos 1)) f) → Divides e f
divides_turned e [] h = tt
divides_turned e (part ∷ f) h =
    let same : unsigned_abs (neg_ℤ (pos 1) *ℤ part.0) ≡ unsigned_abs part.0 = unsigned_abs-mul (neg_ℤ (pos 1)) part.0 ∙ omega arith in
    (subst (λ (n : ℕ). e ∣ n) same h.0, divides_turned e f h.1)

pub first_turned : (f : Form) (part : ℤ × ℕ) → Some part ≡ slice_get f 0 → part.0 <ℤ pos 0 → IsFirstPositive (scaled (neg_ℤ (pos 1)) f)
first_turned [] part e p = cc
first_turned (x ∷ f) part e p =
    let same : part ≡ x = cc in
    let q : x.0 <ℤ pos 0 = subst (λ (y : ℤ × ℕ). y.0 <ℤ pos 0) same p in
    omega (arith, ints, minus_one_times x.0)
