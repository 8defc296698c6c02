-- A given row that was looked at: its quotient is in range, the step that makes it is derived, and how the courses go on.
use Rattle.std.proofs.Common.{◌≡◌, ℕ, zero, suc, ◌≤◌, ◌^◌, FitsSigned, to_z, of_z, List, [], ◌∷◌, ◌++◌, map, ℤ, pos, negsuc, sym, ◌∙◌, ap, subst, arith, Some, Ok, Err}
use mir.Syntax.{w128}
use Rattle.std.proofs.Math.Nat.{div-le_self}
use Rattle.std.proofs.Math.IntN.{zero-*ℤ}
use Rattle.std.proofs.lemmas.Int.{ints, to_z-of_z}
use Rattle.std.proofs.lemmas.List.Elements.{All-nil, All-cons, All-head, All-tail}
use Rattle.std.specs.Prelude.{◌+ℤ◌, ◌*ℤ◌, All, slice_get, unsigned_abs, int_div}
use Rattle.std.specs.Int.{int_div_euclid}
use Rattle.jesc_linear.specs.declared.rows.Row.{Row}
use Rattle.jesc_linear.specs.declared.rows.LinStep.{LinStep}
use Rattle.jesc_linear.specs.declared.stop.Stop.{Stop}
use Rattle.jesc_linear.specs.declared.stop.Stop.TheVariants.{Memory, Absurd, Forms, Pairs, Number, Gap}
use Rattle.jesc_linear.specs.Forms.{Form, coefficient_of}
use Rattle.jesc_linear.specs.Divisors.{divided, divisor_of}
use Rattle.jesc_linear.specs.Steps.{IsNarrow, IsRow, Derives, DerivesFrom}
use Rattle.jesc_linear.specs.Inner.{row_of}
use Rattle.jesc_linear.specs.Courses.{Course, Entry, and_then, looked_at}
use Rattle.jesc_linear.specs.Elimination.{put_row}
use Rattle.jesc_linear.specs.Tables.{IsEnd, Looks}
use Rattle.jesc_linear.proofs.Divisors.{divisor_positive, divisor_at_most}
use Rattle.jesc_linear.proofs.Reductions.{over, look_by_narrow, looked_at_by, looked_is_row, divided_is_form, divided_coefficient}
use Rattle.jesc_linear.proofs.Pairing.{looked_is_it, derives_from}

-- ---- the quotient is in range

small_quotient : (c : ℤ) (d : ℕ) → unsigned_abs (int_div c (pos d)) ≤ unsigned_abs c
small_quotient (pos a) d = div-le_self a d
small_quotient (negsuc a) d = omega (arith, ints, div-le_self (suc a) d)

small_floor : (b : ℤ) (d : ℕ) → unsigned_abs (int_div_euclid b (pos d)) ≤ unsigned_abs b
small_floor (pos a) d = div-le_self a d
small_floor (negsuc a) d = omega (arith, ints, div-le_self a d)

over_is_narrow : (d : ℕ) (f : Form) → All IsNarrow f → All IsNarrow (over d f)
over_is_narrow d [] h = All-nil IsNarrow
over_is_narrow d (part ∷ f) h =
    let here = All-head IsNarrow part f h in
    All-cons IsNarrow (int_div part.0 (pos d), part.1) (over d f) (omega (arith, here, small_quotient part.0 d)) (over_is_narrow d f (All-tail IsNarrow part f h))

-- a row that steps may use stays in range when it is divided
pub divided_is_looked_at : (row : Row) → IsRow row → looked_at (divided row) ≡ Ok (divided row)
divided_is_looked_at row is =
    let d = divisor_of row.form in
    looked_at_by (divided row) (look_by_narrow (over d row.form) (over_is_narrow d row.form is.narrow)) (omega (arith, is.bound, small_floor row.bound d))

-- ---- the step

-- a row itself, as the step says it
once : (x : ℤ) → x ≡ pos 1 *ℤ x +ℤ pos 0 *ℤ x
once x = omega (arith, ints, zero-*ℤ x)

pub given_derives : (row made : Row) (k : ℕ) (d : ℤ) → IsRow row → d ≡ pos (divisor_of row.form) → looked_at (divided row) ≡ Ok made
    → Derives row row (record { a = pos 1; i = k; b = pos 0; j = k; d = d; row = made })
given_derives row made k d is e look =
    let same : made ≡ divided row = looked_is_it (divided row) made look in
    let low = divisor_positive row.form in
    let high = divisor_at_most row.form (2 ^ 31) is.narrow (omega arith) in
    record {
      range = record {
        a_low = omega (arith, ints);
        a_high = omega (arith, ints);
        b_low = omega (arith, ints);
        b_high = omega (arith, ints);
        d_low = omega (arith, ints, e, low);
        d_high = omega (arith, ints, e, high);
      };
      first_row = is;
      second_row = is;
      made_row = subst IsRow (sym same) (looked_is_row (divided row) made (divided_is_form row is.form) look);
      form = λ t. ap (λ (z : ℤ). z *ℤ coefficient_of made.form t) e
          ∙ (ap (λ (r : Row). pos (divisor_of row.form) *ℤ coefficient_of r.form t) same
          ∙ (divided_coefficient row t ∙ once (coefficient_of row.form t)));
      bound = ap (λ (r : Row). r.bound) same ∙ (ap (int_div_euclid row.bound) (sym e) ∙ ap (λ (x : ℤ). int_div_euclid x d) (once row.bound));
    }

pub divisor_fits : (row : Row) (d : ℤ) → IsRow row → d ≡ pos (divisor_of row.form) → to_z w128 (of_z w128 d) ≡ d
divisor_fits row d is e =
    let high = divisor_at_most row.form (2 ^ 31) is.narrow (omega arith) in
    let fits : FitsSigned w128 d = omega (arith, ints, e, high) in
    to_z-of_z w128 d fits

get_before : (rows more : List Row) (k : ℕ) (row : Row) → slice_get rows k ≡ Some row → slice_get (rows ++ more) k ≡ Some row
get_before [] more k row e = absurd (cc)
get_before (r ∷ rows) more zero row e = e
get_before (r ∷ rows) more (suc k) row e = get_before rows more k row e

pub given_derives_from : (rows : List Row) (log : List LinStep) (row : Row) (k : ℕ) (step : LinStep) → slice_get rows k ≡ Some row → step.i ≡ k → step.j ≡ k → Derives row row step
    → DerivesFrom (slice_get (rows ++ map row_of log) step.i) (slice_get (rows ++ map row_of log) step.j) step
given_derives_from rows log row k step e i j h =
    let table : List Row = rows ++ map row_of log in
    let here : slice_get table k ≡ Some row = get_before rows (map row_of log) k row e in
    derives_from table step.i step.j row row step (ap (slice_get table) i ∙ here) (ap (slice_get table) j ∙ here) h

-- ---- the courses

-- what stops the division of a row that was looked at is want of memory, which says nothing
pub never_stops : {A B : Type 0} (log : List LinStep) (v : B → Row) (row : Row) (course : Course A) (s : Stop) → IsRow row → Looks v (looked_at (divided row)) (Err s) → IsEnd log s course
never_stops log v row course Memory is h = tt
never_stops log v row course Absurd is h = absurd h
never_stops log v row course (Forms count) is h = absurd h
never_stops log v row course (Pairs count) is h = absurd h
never_stops log v row course (Number number) is h = absurd (let k = divided_is_looked_at row is in cc)
never_stops log v row course (Gap first second) is h = absurd h

-- the course of one given row
abbrev pub put_one : ℕ → Row → List Entry → Course (List Entry)
put_one number row entries = and_then (looked_at row) (λ r. put_row number (divided row) entries)

-- where the row and its quotient are in range, the quotient is put
pub put_quotient : (number : ℕ) (row made : Row) (entries : List Entry) → looked_at row ≡ Ok row → looked_at (divided row) ≡ Ok made → put_one number row entries ≡ put_row number made entries
put_quotient number row made entries e look =
    ap (λ (c : Course Row). and_then c (λ same. put_row number (divided row) entries)) e
    ∙ ap (λ (r : Row). put_row number r entries) (sym (looked_is_it (divided row) made look))
