-- The sums and limits of the way back, a step at a time.
use Rattle.std.proofs.Common.{◌≡◌, ◌≢◌, ℕ, zero, suc, ◌<◌, ◌==◌, true, false, ℤ, pos, neg_ℤ, ◌+ℤ◌, ◌-ℤ◌, ◌*ℤ◌, ◌≤ℤ◌, ◌<ℤ◌, List, [], ◌∷◌, length, get_or, refl, arith}
use Rattle.std.proofs.lemmas.Int.{ints}
use Rattle.std.proofs.lemmas.Bool.Decides.{nat_tests}
use Rattle.std.specs.Prelude.{unsigned_abs, int_lt}
use Rattle.std.specs.Int.{int_div_euclid}
use Rattle.jesc_linear.specs.declared.rows.LinStep.{LinStep}
use Rattle.jesc_linear.specs.Forms.{Form, coefficient_of}
use Rattle.jesc_linear.specs.Courses.{Entry, and_then, within}
use Rattle.jesc_linear.specs.Elimination.{Values, value_in, sum_without, Limits, lesser, greater, tightened}
use Rattle.jesc_linear.specs.Tables.{row_at}

-- the term itself adds nothing to the sum of the others
pub sum_past : (found : Values) (term : ℕ) (sum : ℤ) (part : ℤ × ℕ) (rest : Form) → part.1 ≡ term → sum_without found term sum (part ∷ rest) ≡ sum_without found term sum rest
sum_past found term sum part rest e =
    let test : part.1 == term ≡ true = grind (arith, nat_tests) in
    rw test

pub sum_with : (found : Values) (term : ℕ) (sum : ℤ) (part : ℤ × ℕ) (rest : Form) (value : ℤ) → part.1 ≢ term → value ≡ value_in found part.1
    → sum_without found term sum (part ∷ rest) ≡ and_then (within 125 (sum +ℤ part.0 *ℤ value)) (λ more. sum_without found term more rest)
sum_with found term sum part rest value n e =
    let test : part.1 == term ≡ false = grind (arith, nat_tests) in
    rw (test, e)

-- a row's limit, by the sign of its coefficient
pub tightened_above : (term : ℕ) (entry : Entry) (left : ℤ) (limits : Limits) (k : ℤ) → coefficient_of entry.row.form term ≡ k → pos 0 <ℤ k
    → tightened term entry left limits ≡ record { least = limits.least; greatest = lesser limits.greatest (int_div_euclid left k, entry) }
tightened_above term entry left limits k e h =
    let test : int_lt (pos 0) (coefficient_of entry.row.form term) ≡ true = rw e (grind (arith, ints)) in
    rw (test, e)

pub tightened_below : (term : ℕ) (entry : Entry) (left : ℤ) (limits : Limits) (k : ℤ) → coefficient_of entry.row.form term ≡ k → k ≤ℤ pos 0
    → tightened term entry left limits ≡ record { least = greater limits.least (neg_ℤ (int_div_euclid left (pos (unsigned_abs k))), entry); greatest = limits.greatest }
tightened_below term entry left limits k e h =
    let test : int_lt (pos 0) (coefficient_of entry.row.form term) ≡ false = rw e (grind (arith, ints)) in
    rw (test, e)

pub negated : (x : ℤ) → pos 0 -ℤ x ≡ neg_ℤ x
negated x = omega (arith, ints)

pub at_most_zero : (x : ℤ) → int_lt (pos 0) x ≡ false → x ≤ℤ pos 0
at_most_zero x h = grind (arith, ints)

-- the row of a step that was read from the log
pub row_read : (log : List LinStep) (at : ℕ) (step : LinStep) → at < length log → (get_or log at step).row ≡ row_at log at
row_read [] at step h = absurd (omega arith)
row_read (s ∷ log) zero step h = refl
row_read (s ∷ log) (suc at) step h = row_read log at step (omega arith)
