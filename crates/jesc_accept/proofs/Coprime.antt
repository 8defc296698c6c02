-- Forms whose coefficients have no common divisor but 1.
use Rattle.std.proofs.Common.{◌≡◌, ℕ, ◌≤◌, ◌^◌, ℤ, pos, negsuc, get_or, ap, subst, arith, All, nat_eq, of_z, w64}
use Rattle.std.proofs.lemmas.Int.{ints}
use Rattle.std.proofs.lemmas.Nat.Gcd.{le_of_dvd}
use Rattle.std.proofs.lemmas.Bool.Decides.{nat_tests}
use Rattle.std.specs.Prelude.{◌≤ℤ◌, unsigned_abs, IsTrue, ◌↔◌}
use Rattle.std.specs.Int.{◌∣◌}
use Rattle.jesc_linear.specs.Forms.{Form, IsForm}
use Rattle.jesc_clauses.specs.Merges.{IsWithin}
use Rattle.jesc_clauses.specs.Normals.{Divides, IsFirstPositive, IsNormal, IsShort}
use Rattle.jesc_clauses.proofs.Divisors.{positive_divisor}

divides_one : (e : ℕ) → e ∣ 1 → e ≡ 1
divides_one e h =
    let q = le_of_dvd {m = e} {n = 1} (omega arith) h in
    let p = positive_divisor e 1 h (omega arith) in
    omega arith

pub normal_of_one : (f : Form) (d : ℤ) → IsForm f → IsFirstPositive f → d ≡ pos 1 → ((e : ℕ) → Divides e f → e ∣ unsigned_abs d) → IsNormal f
normal_of_one f d sorted first is greatest = record {
  sorted = sorted;
  first = first;
  divisor = λ e h. divides_one e (subst (λ (z : ℤ). e ∣ unsigned_abs z) is (greatest e h));
}

of_size_one : (d : ℤ) → pos 1 ≤ℤ d → unsigned_abs d ≡ 1 → d ≡ pos 1
of_size_one (pos n) p e = ap pos e
of_size_one (negsuc n) p e = absurd (omega (arith, ints))

pub one_of_normal : (f : Form) (d : ℤ) → IsNormal f → pos 1 ≤ℤ d → Divides (unsigned_abs d) f → d ≡ pos 1
one_of_normal f d h p divides = of_size_one d p (h.divisor (unsigned_abs d) divides)

pub short_form : (f : Form) → All (IsWithin (2 ^ 31)) f → All IsShort f
short_form f h k d l = let s : unsigned_abs (get_or f k d).0 ≤ 2 ^ 31 = h k d l in omega (arith, s)

-- what the code's test says
pub one_test : (d : ℤ) → pos 1 ≤ℤ d → IsTrue (nat_eq (of_z w64 d) 1) ↔ (d ≡ pos 1)
one_test (pos n) p = ((λ t. let e : n ≡ 1 = grind (arith, nat_tests) in ap pos e), (λ e. let f : n ≡ 1 = cc in grind (arith, nat_tests)))
one_test (negsuc n) p = absurd (omega (arith, ints))
