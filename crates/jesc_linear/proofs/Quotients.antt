-- A row over the common divisor of its coefficients: what meets it meets the row.
use Rattle.std.proofs.Common.{◌≡◌, ℕ, zero, suc, ◌*◌, ◌≤◌, [], ◌∷◌, ℤ, pos, negsuc, refl, ◌∙◌, ap, arith}
use Rattle.std.proofs.lemmas.Int.{ints}
use Rattle.std.proofs.Math.IntN.{◌*ℤ◌, *ℤ-zero, pos-*ℤ-pos, pos-*ℤ-negsuc}
use Rattle.std.specs.Prelude.{◌≤ℤ◌, int_div}
use Rattle.std.specs.Int.{int_div_euclid}
use Rattle.jesc_linear.specs.declared.rows.Row.{Row}
use Rattle.jesc_linear.specs.Forms.{Form, value, coefficient_of}
use Rattle.jesc_linear.specs.Rows.{Meets}
use Rattle.jesc_linear.specs.Divisors.{divisor_of, divided}
use Rattle.jesc_linear.proofs.Whole.{sum_under_times, times_times, keeps_order}
use Rattle.jesc_linear.proofs.Sound.{quotient_multiple}
use Rattle.jesc_linear.proofs.Reductions.{over, exact_quotient, divided_coefficient}
use Rattle.jesc_linear.proofs.Divisors.{Divides, divisor_positive, divisor_divides}

over_value : (v : ℕ → ℤ) (d : ℕ) (form : Form) → Divides d form → pos d *ℤ value v (over d form) ≡ value v form
over_value v d [] h = *ℤ-zero (pos d)
over_value v d (part ∷ rest) h =
    let q : ℤ = int_div part.0 (pos d) in
    omega (
      arith,
      ints,
      sum_under_times (pos d) (q *ℤ v part.1) (value v (over d rest)),
      times_times (pos d) q (v part.1),
      ap (λ x. x *ℤ v part.1) (exact_quotient part.0 d h.0),
      over_value v d rest h.1,
    )

factor_none : (d : ℕ) (x : ℤ) → 1 ≤ d → pos d *ℤ x ≡ pos 0 → x ≡ pos 0
factor_none d (pos zero) p e = refl
factor_none d (pos (suc n)) p e = absurd (let k : 1 ≤ d * suc n = grind arith in omega (arith, ints, pos-*ℤ-pos d (suc n), e))
factor_none d (negsuc n) p e = absurd (let k : 1 ≤ d * suc n = grind arith in omega (arith, ints, pos-*ℤ-negsuc d n, e))

-- the divided row lacks the terms that the row lacks
pub divided_lacks : (row : Row) (term : ℕ) → coefficient_of row.form term ≡ pos 0 → coefficient_of (divided row).form term ≡ pos 0
divided_lacks row term e = factor_none (divisor_of row.form) (coefficient_of (divided row).form term) (divisor_positive row.form)
    (divided_coefficient row term ∙ e)

pub divided_met : (v : ℕ → ℤ) (row : Row) → Meets v (divided row) → Meets v row
divided_met v row m =
    let d : ℕ = divisor_of row.form in
    let one : pos 1 ≤ℤ pos d = omega (arith, ints, divisor_positive row.form) in
    let whole = over_value v d row.form (divisor_divides row.form) in
    let less = keeps_order (pos d) (value v (over d row.form)) (int_div_euclid row.bound (pos d)) (omega (arith, ints)) m in
    let floor = quotient_multiple (pos d) row.bound one in
    omega (arith, ints, whole, less, floor)
