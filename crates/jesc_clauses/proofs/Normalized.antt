-- What is divided by the greatest divisor is in normal form.
use Rattle.std.proofs.Common.{◌≡◌, ℕ, zero, suc, ◌+◌, ◌*◌, ◌<◌, [], ◌∷◌, ℤ, pos, negsuc, sym, ap, ◌∙◌, subst, arith}
use Rattle.std.proofs.lemmas.Int.{ints, unsigned_abs-mul}
use Rattle.std.proofs.Math.IntN.{◌*ℤ◌, *ℤ_comm, zero-*ℤ, pos-*ℤ-negsuc}
use Rattle.std.proofs.Math.Nat.{mul-dvd-mul_left}
use Rattle.std.proofs.lemmas.Nat.Gcd.{le_of_dvd}
use Rattle.std.proofs.lemmas.List.Elements.{All-nil, All-cons, All-head, All-tail}
use Rattle.std.specs.Prelude.{◌<ℤ◌, unsigned_abs, All}
use Rattle.std.specs.Int.{◌∣◌}
use Rattle.jesc_linear.specs.Forms.{Form, RisesFrom, IsNonzero, IsForm}
use Rattle.jesc_clauses.specs.declared.atom.Atom.{Atom}
use Rattle.jesc_clauses.specs.Normals.{scaled, Divides, IsFirstPositive, IsOver}
use Rattle.jesc_clauses.proofs.Divisors.{positive_divisor}

rises_scaled : (d : ℤ) (low : ℕ) (f : Form) → RisesFrom low (scaled d f) → RisesFrom low f
rises_scaled d low [] h = tt
rises_scaled d low (part ∷ f) h = (h.0, rises_scaled d (part.1 + 1) f h.1)

nonzero_scaled : (d : ℤ) (f : Form) → All IsNonzero (scaled d f) → All IsNonzero f
nonzero_scaled d [] all = All-nil IsNonzero
nonzero_scaled d (part ∷ f) all =
    All-cons IsNonzero part f
    (λ e. All-head IsNonzero (d *ℤ part.0, part.1) (scaled d f) all (ap (λ c. d *ℤ c) e ∙ omega (arith, ints, *ℤ_comm d (pos 0), zero-*ℤ d)))
    (nonzero_scaled d f (All-tail IsNonzero (d *ℤ part.0, part.1) (scaled d f) all))

positive_factor : (d c : ℤ) → pos 0 <ℤ d → pos 0 <ℤ (d *ℤ c) → pos 0 <ℤ c
positive_factor (pos d) (pos zero) p h = absurd (omega (arith, ints, *ℤ_comm (pos d) (pos 0), zero-*ℤ (pos d)))
positive_factor (pos d) (pos (suc c)) p h = omega (arith, ints)
positive_factor (pos d) (negsuc c) p h = absurd (omega (arith, ints, pos-*ℤ-negsuc d c))
positive_factor (negsuc d) c p h = absurd (omega (arith, ints))

first_scaled : (d : ℤ) (f : Form) → pos 0 <ℤ d → IsFirstPositive (scaled d f) → IsFirstPositive f
first_scaled d [] p h = h
first_scaled d (part ∷ f) p h = positive_factor d part.0 p h

divides_scaled : (d : ℤ) (e : ℕ) (f : Form) → Divides e f → Divides (unsigned_abs d * e) (scaled d f)
divides_scaled d e [] h = tt
divides_scaled d e (part ∷ f) h =
    (subst (λ (n : ℕ). (unsigned_abs d * e) ∣ n) (sym (unsigned_abs-mul d part.0)) (mul-dvd-mul_left e {c = unsigned_abs part.0} (unsigned_abs d) h.0), divides_scaled d e f h.1)

pub positive_abs : (d : ℤ) → pos 0 <ℤ d → 0 < unsigned_abs d
positive_abs (pos d) p = omega (arith, ints)
positive_abs (negsuc d) p = omega arith

only_one : (d e : ℕ) → 0 < d → (d * e) ∣ d → e ≡ 1
only_one d e p h =
    let q = le_of_dvd {m = d * e} {n = d} p h in
    let r = positive_divisor (d * e) d h p in
    grind arith

pub normal_over : (d : ℤ) (form : Form) (atom : Atom) → pos 0 <ℤ d → scaled d atom.form ≡ form → IsForm form → IsFirstPositive form → ((e : ℕ) → Divides e form → e ∣ unsigned_abs d) → IsOver d form atom
normal_over d form atom p times h first greatest = record {
  positive = p;
  times = times;
  normal = record {
    sorted = record {
      rises = rises_scaled d 0 atom.form (subst (RisesFrom 0) (sym times) h.rises);
      nonzero = nonzero_scaled d atom.form (subst (λ (f : Form). All IsNonzero f) (sym times) h.nonzero);
    };
    first = first_scaled d atom.form p (subst IsFirstPositive (sym times) first);
    divisor = λ e k. only_one (unsigned_abs d) e (positive_abs d p) (greatest (unsigned_abs d * e) (subst (Divides (unsigned_abs d * e)) times (divides_scaled d e atom.form k)));
  };
}
