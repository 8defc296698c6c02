-- The greatest common divisor of a form's coefficients, as the definitions find it and as Euclid does.
use Rattle.std.proofs.Common.{◌≡◌, ◌≢◌, ◌==◌, true, ℕ, zero, suc, ◌*◌, ◌%◌, ◌<◌, ◌≤◌, List, [], ◌∷◌, ◌++◌, length, map, get_or, ℤ, pos, negsuc, refl, sym, subst, ◌∙◌, arith, inl, inr}
use Rattle.std.proofs.lemmas.Nat.Gcd.{dvd_trans, dvd-zero, le_of_dvd, dvd_of_mod-eq-zero, mod-eq-zero_of_dvd}
use Rattle.std.proofs.lemmas.Bool.{and_from, and_parts, eq-eqb, eqb-true, cases_Bool, cases_eq, true≢false}
use Rattle.std.proofs.lemmas.List.Elements.{All-head}
use Rattle.std.specs.Prelude.{All, unsigned_abs}
use Rattle.std.specs.Int.{◌∣◌, IsGcd}
use Rattle.jesc_linear.specs.Forms.{Form}
use Rattle.jesc_linear.specs.Divisors.{divides_all, greatest_up_to, divisor_of}

-- d divides each coefficient
abbrev pub Divides : ℕ → Form → Type 0
Divides d [] = Unit {0}
Divides d (part ∷ rest) = (d ∣ unsigned_abs part.0) × Divides d rest

-- d divides each coefficient, and each number that does divides d
pub record IsDivisor (f : Form) (d : ℕ) : Type 0 where
  pub divides : Divides d f
  pub greatest : (e : ℕ) → Divides e f → e ∣ d

abbrev sizes : Form → List ℕ
sizes f = map (λ part. unsigned_abs part.0) f

tested : (d : ℕ) (f : Form) → Divides d f → divides_all d (sizes f) ≡ true
tested d [] h = refl
tested d (part ∷ f) h = and_from _ _ (eq-eqb (unsigned_abs part.0 % d) 0 (mod-eq-zero_of_dvd d h.0)) (tested d f h.1)

divides_by_test : (d : ℕ) (f : Form) → divides_all d (sizes f) ≡ true → Divides d f
divides_by_test d [] e = tt
divides_by_test d (part ∷ f) e =
    let parts = and_parts (unsigned_abs part.0 % d == 0) (divides_all d (sizes f)) e in
    (dvd_of_mod-eq-zero d (eqb-true (unsigned_abs part.0 % d) 0 parts.0), divides_by_test d f parts.1)

pub positive_divisor : (d n : ℕ) → d ∣ n → 0 < n → 0 < d
positive_divisor zero n h p = let e = mod-eq-zero_of_dvd zero h in grind (arith, e)
positive_divisor (suc d) n h p = omega arith

pub positive_size : (z : ℤ) → z ≢ pos 0 → 0 < unsigned_abs z
positive_size (pos zero) h = absurd (h refl)
positive_size (pos (suc n)) h = omega arith
positive_size (negsuc n) h = omega arith

-- ---- the definitions' divisor

greatest_positive : (limit : ℕ) (numbers : List ℕ) → 1 ≤ greatest_up_to limit numbers
greatest_positive zero numbers = omega arith
greatest_positive (suc limit) numbers = elim (cases_Bool (divides_all (suc limit) numbers)) [
  | inl hit ↦ rw hit (omega arith)
  | inr miss ↦ rw miss (greatest_positive limit numbers)
]

pub divisor_positive : (f : Form) → 1 ≤ divisor_of f
divisor_positive [] = omega arith
divisor_positive (part ∷ f) = greatest_positive (unsigned_abs part.0) (sizes (part ∷ f))

divides_by_one : (f : Form) → Divides 1 f
divides_by_one [] = tt
divides_by_one (part ∷ f) = (dvd_of_mod-eq-zero 1 (omega arith), divides_by_one f)

greatest_divides : (limit : ℕ) (f : Form) → Divides (greatest_up_to limit (sizes f)) f
greatest_divides zero f = divides_by_one f
greatest_divides (suc limit) f = elim (cases_Bool (divides_all (suc limit) (sizes f))) [
  | inl hit ↦ rw hit (divides_by_test (suc limit) f hit)
  | inr miss ↦ rw miss (greatest_divides limit f)
]

pub divisor_divides : (f : Form) → Divides (divisor_of f) f
divisor_divides [] = tt
divisor_divides (part ∷ f) = greatest_divides (unsigned_abs part.0) (part ∷ f)

at_most : (d limit : ℕ) → d ≤ suc limit → (d ≡ suc limit → ⊥) → d ≤ limit
at_most d limit l n = elim (cases_eq d (suc limit)) [ inl e ↦ absurd (n e) | inr k ↦ omega arith ]

greatest_is : (limit d : ℕ) (f : Form) → 0 < d → d ≤ limit → Divides d f → ((e : ℕ) → Divides e f → e ≤ d) → greatest_up_to limit (sizes f) ≡ d
greatest_is zero d f p l h g = omega arith
greatest_is (suc limit) d f p l h g = elim (cases_Bool (divides_all (suc limit) (sizes f))) [
  | inl hit ↦ rw hit (let k = g (suc limit) (divides_by_test (suc limit) f hit) in omega arith)
  | inr miss ↦ rw miss (greatest_is limit d f p (at_most d limit l (λ e. let hit = tested (suc limit) f (subst (λ (n : ℕ). Divides n f) e h) in true≢false (sym hit ∙ miss))) h g)
]

-- what divides all coefficients and is a multiple of each number that does is the definitions' divisor
pub divisor_is : (f : Form) (d : ℕ) → 0 < length f → 0 < d → (0 < unsigned_abs (get_or f 0 (pos 0, 0)).0) → IsDivisor f d → divisor_of f ≡ d
divisor_is [] d some p n h = absurd (omega arith)
divisor_is (part ∷ f) d some p n h =
    greatest_is (unsigned_abs part.0) d (part ∷ f) p (le_of_dvd n h.divides.0) h.divides (λ e k. le_of_dvd p (h.greatest e k))

-- every number divides all of no coefficients
pub some_part : (f : Form) (d : ℕ) → 0 < d → IsDivisor f d → 0 < length f
some_part [] d p h = absurd (let k = le_of_dvd p (h.greatest (suc d) tt) in omega (arith, k))
some_part (part ∷ f) d p h = omega arith

-- ---- one more part

divides_push : (d : ℕ) (f : Form) (part : ℤ × ℕ) → Divides d f → d ∣ unsigned_abs part.0 → Divides d (f ++ part ∷ [])
divides_push d [] part h p = (p, tt)
divides_push d (x ∷ f) part h p = (h.0, divides_push d f part h.1 p)

divides_front : (d : ℕ) (f : Form) (part : ℤ × ℕ) → Divides d (f ++ part ∷ []) → Divides d f × (d ∣ unsigned_abs part.0)
divides_front d [] part h = (tt, h.0)
divides_front d (x ∷ f) part h = let r = divides_front d f part h.1 in ((h.0, r.0), r.1)

divides_less : (d e : ℕ) (f : Form) → d ∣ e → Divides e f → Divides d f
divides_less d e [] p h = tt
divides_less d e (x ∷ f) p h = (dvd_trans d p h.0, divides_less d e f p h.1)

pub no_divisor : IsDivisor [] 0
no_divisor = record { divides = tt; greatest = λ e h. dvd-zero e }

pub next_divisor : (f : Form) (d g : ℕ) (part : ℤ × ℕ) → IsDivisor f d → IsGcd d (unsigned_abs part.0) g → IsDivisor (f ++ part ∷ []) g
next_divisor f d g part h i = record {
  divides = divides_push g f part (divides_less g d f i.0 h.divides) i.1;
  greatest = λ e k. let r = divides_front e f part k in i.2 e (h.greatest e r.0) r.1;
}

pub divides_at : (d : ℕ) (f : Form) (k : ℕ) (e : ℤ × ℕ) → Divides d f → k < length f → d ∣ unsigned_abs (get_or f k e).0
divides_at d [] k e h p = absurd (omega arith)
divides_at d (x ∷ f) zero e h p = h.0
divides_at d (x ∷ f) (suc k) e h p = divides_at d f k e h.1 (omega arith)

-- ---- two numbers

pub divisor_of_two : (own other : ℤ) (d : ℕ) → own ≢ pos 0 → 0 < d → IsGcd (unsigned_abs own) (unsigned_abs other) d → divisor_of ((own, 0) ∷ (other, 0) ∷ []) ≡ d
divisor_of_two own other d n p h =
    divisor_is ((own, 0) ∷ (other, 0) ∷ []) d (omega arith) p (positive_size own n) (record {
      divides = (h.0, (h.1, tt));
      greatest = λ e k. h.2 e k.0 k.1.0;
    })

pub natural_quotient : (d q n : ℕ) → n ≡ d * q → 0 < n → (1 ≤ q) × (q ≤ n)
natural_quotient zero q n e p = absurd (omega arith)
natural_quotient (suc d) zero n e p = absurd (let z : suc d * 0 ≡ 0 = grind arith in omega arith)
natural_quotient (suc d) (suc q) n e p = (omega arith, grind arith)

-- ---- how large it is

greatest_at_most : (limit most : ℕ) (numbers : List ℕ) → limit ≤ most → 1 ≤ most → greatest_up_to limit numbers ≤ most
greatest_at_most zero most numbers l h = h
greatest_at_most (suc limit) most numbers l h = elim (cases_Bool (divides_all (suc limit) numbers)) [
  | inl hit ↦ rw hit l
  | inr miss ↦ rw miss (greatest_at_most limit most numbers (omega arith) h)
]

pub divisor_at_most : (f : Form) (most : ℕ) → All (λ part. unsigned_abs part.0 ≤ most) f → 1 ≤ most → divisor_of f ≤ most
divisor_at_most [] most all h = h
divisor_at_most (part ∷ f) most all h = greatest_at_most (unsigned_abs part.0) most (sizes (part ∷ f)) (All-head (λ (p : ℤ × ℕ). unsigned_abs p.0 ≤ most) part f all) h
