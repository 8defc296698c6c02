-- Rows over the divisor of their form, and rows that were looked at.
use Rattle.std.proofs.Common.{◌≡◌, ◌==◌, ℕ, ◌+◌, ◌<◌, ◌≤◌, ◌^◌, [], ◌∷◌, map, length, get_or, drop, ℤ, pos, negsuc, refl, sym, ap, subst, ◌∙◌, arith, inl, inr, Result, Ok, Err}
use Rattle.std.proofs.lemmas.Int.{ints, quot-rem}
use Rattle.std.proofs.lemmas.Bool.{cases_Bool, cases_lt, lt-ltb, le-ltb}
use Rattle.std.proofs.lemmas.List.{at_drop_more}
use Rattle.std.proofs.lemmas.Nat.Gcd.{mod-eq-zero_of_dvd}
use Rattle.std.proofs.lemmas.List.Elements.{All-nil, All-cons, All-head, All-tail}
use Rattle.std.proofs.Math.IntN.{◌*ℤ◌, neg_ℤ, *ℤ_comm, *ℤ-zero}
use Rattle.std.specs.Prelude.{All, unsigned_abs, int_div, int_rem}
use Rattle.std.specs.Result.{IsErrAnd}
use Rattle.std.specs.Int.{◌∣◌}
use Rattle.jesc_linear.specs.declared.rows.Row.{Row}
use Rattle.jesc_linear.specs.declared.stop.Stop.{Stop}
use Rattle.jesc_linear.specs.declared.stop.Stop.TheVariants.{Memory, Absurd, Forms, Pairs, Number, Gap}
use Rattle.jesc_linear.specs.Tables.{Looks}
use Rattle.jesc_linear.specs.Forms.{Form, coefficient_of, RisesFrom, IsForm, IsNonzero}
use Rattle.jesc_linear.specs.Divisors.{divided, divisor_of}
use Rattle.jesc_linear.specs.Steps.{IsNarrow, IsRow}
use Rattle.jesc_linear.specs.Courses.{Course, Ending, and_then, within, look_at_form, looked_at}
use Rattle.jesc_linear.specs.Courses.Ending.{wide_number}
use Rattle.jesc_linear.proofs.Divisors.{Divides, divisor_divides}

-- ---- numbers in range

pub within_range : (power : ℕ) (number : ℤ) → unsigned_abs number ≤ 2 ^ power → within power number ≡ Ok number
within_range power number h = let e = le-ltb (2 ^ power) (unsigned_abs number) h in rw e refl

pub beyond_range : (power : ℕ) (number : ℤ) → 2 ^ power < unsigned_abs number → within power number ≡ Err (wide_number number)
beyond_range power number h = let e = lt-ltb (2 ^ power) (unsigned_abs number) h in rw e refl

-- what is let pass is the number itself
pub passed : (power : ℕ) (number z : ℤ) → within power number ≡ Ok z → (z ≡ number) × (unsigned_abs number ≤ 2 ^ power)
passed power number z e = elim (cases_lt (2 ^ power) (unsigned_abs number)) [
  | inl wide ↦ absurd (let k = beyond_range power number wide in cc)
  | inr here ↦ ((let k = within_range power number here in cc), here)
]

-- ---- forms in range

pub looked_first : (part : ℤ × ℕ) (f : Form) → unsigned_abs part.0 ≤ 2 ^ 31 → look_at_form (part ∷ f) ≡ look_at_form f
looked_first part f h = ap (λ (c : Course ℤ). and_then c (λ n. look_at_form f)) (within_range 31 part.0 h)

pub stopped_first : (part : ℤ × ℕ) (f : Form) → 2 ^ 31 < unsigned_abs part.0 → look_at_form (part ∷ f) ≡ Err (wide_number part.0)
stopped_first part f h = ap (λ (c : Course ℤ). and_then c (λ n. look_at_form f)) (beyond_range 31 part.0 h)

pub narrow_by_look : (f : Form) → look_at_form f ≡ Ok tt → All IsNarrow f
narrow_by_look [] e = All-nil IsNarrow
narrow_by_look (part ∷ f) e = elim (cases_lt (2 ^ 31) (unsigned_abs part.0)) [
  | inl wide ↦ let k = stopped_first part f wide in absurd (cc)
  | inr here ↦ All-cons IsNarrow part f here (narrow_by_look f (sym (looked_first part f here) ∙ e))
]

pub look_by_narrow : (f : Form) → All IsNarrow f → look_at_form f ≡ Ok tt
look_by_narrow [] h = refl
look_by_narrow (part ∷ f) h = looked_first part f (All-head IsNarrow part f h) ∙ look_by_narrow f (All-tail IsNarrow part f h)

-- ---- rows in range

pub looked_at_by : (row : Row) → look_at_form row.form ≡ Ok tt → unsigned_abs row.bound ≤ 2 ^ 94 → looked_at row ≡ Ok row
looked_at_by row e h =
    ap (λ (c : Course (Unit {0})). and_then c (λ u. and_then (within 94 row.bound) (λ n. Ok row))) e
    ∙ ap (λ (c : Course ℤ). and_then c (λ n. Ok row)) (within_range 94 row.bound h)

pub stopped_by_form : (row : Row) (ending : Ending) → look_at_form row.form ≡ Err ending → looked_at row ≡ Err ending
stopped_by_form row ending e = ap (λ (c : Course (Unit {0})). and_then c (λ u. and_then (within 94 row.bound) (λ n. Ok row))) e

pub stopped_by_bound : (row : Row) → look_at_form row.form ≡ Ok tt → 2 ^ 94 < unsigned_abs row.bound → looked_at row ≡ Err (wide_number row.bound)
stopped_by_bound row e h =
    ap (λ (c : Course (Unit {0})). and_then c (λ u. and_then (within 94 row.bound) (λ n. Ok row))) e
    ∙ ap (λ (c : Course ℤ). and_then c (λ n. Ok row)) (beyond_range 94 row.bound h)

pub row_by_look : (row : Row) → IsForm row.form → look_at_form row.form ≡ Ok tt → unsigned_abs row.bound ≤ 2 ^ 94 → IsRow row
row_by_look row form e h = record { form = form; narrow = narrow_by_look row.form e; bound = h }

-- a row in order that was looked at is one that steps may use
pub looked_is_row : (row same : Row) → IsForm row.form → looked_at row ≡ Ok same → IsRow row
looked_is_row row same form e = by (look_at_form row.form) refl
  where
    stopped : (ending : Ending) → look_at_form row.form ≡ Err ending → IsRow row
    stopped ending k = let s = stopped_by_form row ending k in absurd (cc)

    by : (c : Course (Unit {0})) → look_at_form row.form ≡ c → IsRow row
    by (Err ending) k = stopped ending k
    by (Ok u) k = elim (cases_lt (2 ^ 94) (unsigned_abs row.bound)) [
      | inl wide ↦ let s = stopped_by_bound row k wide in absurd (cc)
      | inr here ↦ row_by_look row form k here
    ]

-- ---- exact quotients

abbrev pub over : ℕ → Form → Form
over d f = map (λ part. (int_div part.0 (pos d), part.1)) f

no_rest : (c : ℤ) (d : ℕ) → d ∣ unsigned_abs c → int_rem c (pos d) ≡ pos 0
no_rest (pos a) d h = ap pos (mod-eq-zero_of_dvd d h)
no_rest (negsuc a) d h = ap (λ n. neg_ℤ (pos n)) (mod-eq-zero_of_dvd d h)

pub exact_quotient : (c : ℤ) (d : ℕ) → d ∣ unsigned_abs c → pos d *ℤ int_div c (pos d) ≡ c
exact_quotient c d h = omega (arith, ints, quot-rem c (pos d), no_rest c d h, *ℤ_comm (pos d) (int_div c (pos d)))

over_rises : (d low : ℕ) (f : Form) → RisesFrom low f → RisesFrom low (over d f)
over_rises d low [] r = tt
over_rises d low (part ∷ f) r = (r.0, over_rises d (part.1 + 1) f r.1)

over_nonzero : (d : ℕ) (f : Form) → Divides d f → All IsNonzero f → All IsNonzero (over d f)
over_nonzero d [] h n = All-nil IsNonzero
over_nonzero d (part ∷ f) h n =
    All-cons IsNonzero (int_div part.0 (pos d), part.1) (over d f)
    (λ e. All-head IsNonzero part f n (sym (exact_quotient part.0 d h.0) ∙ (ap (λ x. pos d *ℤ x) e ∙ *ℤ-zero (pos d))))
    (over_nonzero d f h.1 (All-tail IsNonzero part f n))

pub over_is_form : (d : ℕ) (f : Form) → Divides d f → IsForm f → IsForm (over d f)
over_is_form d f h i = record { rises = over_rises d 0 f i.rises; nonzero = over_nonzero d f h i.nonzero }

pub over_coefficient : (d : ℕ) (f : Form) (t : ℕ) → Divides d f → pos d *ℤ coefficient_of (over d f) t ≡ coefficient_of f t
over_coefficient d [] t h = *ℤ-zero (pos d)
over_coefficient d (part ∷ f) t h = elim (cases_Bool (part.1 == t)) [
  | inl here ↦ rw here (exact_quotient part.0 d h.0)
  | inr other ↦ rw other (over_coefficient d f t h.1)
]

-- ---- divided rows

pub divided_is_form : (row : Row) → IsForm row.form → IsForm (divided row).form
divided_is_form row i = over_is_form (divisor_of row.form) row.form (divisor_divides row.form) i

pub divided_coefficient : (row : Row) (t : ℕ) → pos (divisor_of row.form) *ℤ coefficient_of (divided row).form t ≡ coefficient_of row.form t
divided_coefficient row t = over_coefficient (divisor_of row.form) row.form t (divisor_divides row.form)

-- ---- the code's walks

abbrev pub quotients : ℤ → Form → Form
quotients d f = map (λ part. (int_div part.0 d, part.1)) f

-- one more quotient was in range
pub look_on : (d : ℤ) (f : Form) (k : ℕ) (z : ℤ) → k < length f → within 31 (int_div (get_or f k (pos 0, 0)).0 d) ≡ Ok z
    → look_at_form (quotients d (drop k f)) ≡ look_at_form (quotients d (drop (k + 1) f))
look_on d f k z l e =
    at_drop_more (λ g. look_at_form (quotients d g)) f k (pos 0, 0) l
    ∙ ap (λ (c : Course ℤ). and_then c (λ n. look_at_form (quotients d (drop (k + 1) f)))) e

-- where one course ends as another does, what stops the one is an answer for the other
pub stops_too : {A C : Type 0} (B D : Type 0) (v : B → A) (w : D → C) (course : Course A) (more : Course C) (s : Stop) (r : Result D Stop)
    → ((ending : Ending) → course ≡ Err ending → more ≡ Err ending) → Looks v course (Err s) → IsErrAnd r (λ y. y ≡ s) → Looks w more r
stops_too B D v w course more s (Ok x) f h e = absurd e
stops_too B D v w course more s (Err t) f h e = subst (λ (x : Stop). Looks w more (Err x)) (sym e) (by s h)
  where
    by : (s : Stop) → Looks v course (Err s) → Looks w more (Err s)
    by Memory h = tt
    by Absurd h = h
    by (Forms count) h = h
    by (Pairs count) h = h
    by (Number number) h = f (wide_number number) h
    by (Gap first second) h = h

pub divided_stops : (row : Row) (d : ℤ) (ending : Ending) → d ≡ pos (divisor_of row.form) → look_at_form (quotients d row.form) ≡ Err ending → looked_at (divided row) ≡ Err ending
divided_stops row d ending e h = stopped_by_form (divided row) ending (subst (λ (z : ℤ). look_at_form (quotients z row.form) ≡ Err ending) e h)

-- the quotients that were made, with a bound in range, are a row
pub made_is_row : (form made : Form) (d bound : ℤ) → d ≡ pos (divisor_of form) → IsForm form → look_at_form (quotients d form) ≡ Ok tt → made ≡ quotients d form
    → unsigned_abs bound ≤ 2 ^ 94 → IsRow (record { form = made; bound = bound })
made_is_row form made d bound e i look is h = row_by_look (record { form = made; bound = bound })
    (subst IsForm (sym (is ∙ ap (λ (z : ℤ). quotients z form) e)) (over_is_form (divisor_of form) form (divisor_divides form) i))
    (ap look_at_form is ∙ look) h
