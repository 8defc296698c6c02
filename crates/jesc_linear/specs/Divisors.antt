-- A row over the greatest common divisor of its coefficients.
use Rattle.std.specs.Prelude.{ℕ, zero, suc, ◌%◌, ◌==◌, Bool, if◌then◌else◌, pos, List, [], ◌∷◌, map, unsigned_abs, int_div}
use Rattle.std.specs.List.{list_all}
use Rattle.std.specs.Int.{int_div_euclid}
use Rattle.jesc_linear.specs.declared.rows.Row.{Row}
use Rattle.jesc_linear.specs.Forms.{Form}

-- each of the numbers is a multiple of d
abbrev pub divides_all : ℕ → List ℕ → Bool
divides_all d numbers = list_all (λ n. n % d == 0) numbers

-- the greatest number up to the limit that divides them all
abbrev pub greatest_up_to : ℕ → List ℕ → ℕ
greatest_up_to zero numbers = 1
greatest_up_to (suc limit) numbers = if divides_all (suc limit) numbers then suc limit else greatest_up_to limit numbers

-- the greatest common divisor of numbers above 0, of none 1
abbrev pub common_divisor : List ℕ → ℕ
common_divisor [] = 1
common_divisor (n ∷ numbers) = greatest_up_to n (n ∷ numbers)

abbrev pub divisor_of : Form → ℕ
divisor_of form = common_divisor (map (λ part. unsigned_abs part.0) form)

-- each coefficient is divided, and the bound rounded down
abbrev pub divided_by : ℕ → Row → Row
divided_by d row = record {
  form = map (λ part. (int_div part.0 (pos d), part.1)) row.form;
  bound = int_div_euclid row.bound (pos d);
}

abbrev pub divided : Row → Row
divided row = divided_by (divisor_of row.form) row
