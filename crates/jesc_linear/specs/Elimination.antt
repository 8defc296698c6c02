-- The elimination of one variable after the other, and the way back.
use Rattle.std.specs.Prelude.{◌≡◌, ℕ, zero, suc, ◌+◌, ◌*◌, ◌<◌, ◌≤◌, ltb, Bool, true, false, not, ◌&&◌, ◌==◌, ◌⊎◌, if◌then◌else◌, Option, Some, None, ℤ, pos, neg_ℤ, ◌+ℤ◌, ◌-ℤ◌, ◌*ℤ◌, List, [], ◌∷◌, ◌++◌, length, filter, Ok, Err, unsigned_abs, int_lt, int_le, max}
use Rattle.std.specs.List.{list_any}
use Rattle.std.specs.Ordering.{int_eq}
use Rattle.std.specs.Int.{int_div_euclid}
use Rattle.jesc_linear.specs.declared.rows.Row.{Row}
use Rattle.jesc_linear.specs.declared.outcome.Outcome.{Outcome}
use Rattle.jesc_linear.specs.declared.outcome.Outcome.TheVariants.{Refuted, Point, WideForms, WidePairs, WideNumber, Gap}
use Rattle.jesc_linear.specs.Forms.{Form, coefficient_of}
use Rattle.jesc_linear.specs.Divisors.{divided}
use Rattle.jesc_linear.specs.Sums.{end_of, sum_of}
use Rattle.jesc_linear.specs.Courses.{Entry, Ending, Course, and_then, within, looked_at}
use Rattle.jesc_linear.specs.Courses.Ending.{refuted, wide_forms, wide_pairs, wide_number, gap}

-- ---- how a row is put into the table

abbrev pub same_form : Form → Form → Bool
same_form [] [] = true
same_form [] (q ∷ g) = false
same_form (p ∷ f) [] = false
same_form (p ∷ f) (q ∷ g) = int_eq p.0 q.0 && (p.1 == q.1) && same_form f g

-- the entry's row has that form, and its bound is no greater
abbrev pub covers : Row → Entry → Bool
covers row entry = same_form entry.row.form row.form && int_le entry.row.bound row.bound

-- the row has a form that isn't empty, and no entry covers it
abbrev pub stays : List Entry → Row → Bool
stays entries row = by row.form
  where
    by : Form → Bool
    by [] = false
    by (part ∷ rest) = not (list_any (covers row) entries)

-- the row says that 0 is at most a negative number
abbrev pub is_absurd : Row → Bool
is_absurd row = same_form row.form [] && int_lt row.bound (pos 0)

-- the row is the last entry, and the one with its form is gone
abbrev pub entered : ℕ → Row → List Entry → List Entry
entered number row entries = filter (λ entry. not (same_form entry.row.form row.form)) entries ++ record { number = number; row = row } ∷ []

-- at most 3,000 rows stand in the table
abbrev pub limited : List Entry → Course (List Entry)
limited entries = if ltb 3000 (length entries) then Err (wide_forms (length entries)) else Ok entries

abbrev pub put_row : ℕ → Row → List Entry → Course (List Entry)
put_row number row entries = if is_absurd row then Err refuted else (if stays entries row then limited (entered number row entries) else Ok entries)

-- the input rows from that number on: each is looked at and then divided
abbrev pub put_given : ℕ → List Row → List Entry → Course (List Entry)
put_given number [] entries = Ok entries
put_given number (row ∷ rows) entries = and_then (looked_at row) (λ r. and_then (put_row number (divided row) entries) (put_given (suc number) rows))

-- ---- a stage

-- the rows in the table in the order of their numbers, the number of the next derived row, and the pairs of all stages so far
pub record Table : Type 0 where
  pub entries : List Entry
  pub next : ℕ
  pub pairs : ℕ

abbrev pub coefficient_at : ℕ → Entry → ℤ
coefficient_at term entry = coefficient_of entry.row.form term

abbrev pub has_term : ℕ → Entry → Bool
has_term term entry = not (int_eq (coefficient_at term entry) (pos 0))

abbrev pub is_upper : ℕ → Entry → Bool
is_upper term entry = int_lt (pos 0) (coefficient_at term entry)

abbrev pub is_lower : ℕ → Entry → Bool
is_lower term entry = int_lt (coefficient_at term entry) (pos 0)

-- the pairs of an upper and a lower row
abbrev pub pairs_of : List Entry → ℕ → ℕ
pairs_of entries term = length (filter (is_upper term) entries) * length (filter (is_lower term) entries)

abbrev pub occurs : List Entry → ℕ → Bool
occurs entries term = list_any (has_term term) entries

-- of the terms that occur the one in fewest pairs, at a tie the smallest
pub record IsNext (entries : List Entry) (term : ℕ) : Type 0 where
  pub there : occurs entries term ≡ true
  pub fewest : (other : ℕ) → occurs entries other ≡ true → (pairs_of entries term < pairs_of entries other) ⊎ ((pairs_of entries term ≡ pairs_of entries other) × (term ≤ other))

-- the table with the row as its next entry, if it stays
abbrev pub put_derived : Row → Table → Course Table
put_derived row table = and_then (put_row table.next row table.entries)
    (λ entries. Ok (record { entries = entries; next = if stays table.entries row then suc table.next else table.next; pairs = table.pairs }))

-- a derived row is divided and then looked at
abbrev pub put_sum : ℕ → Row → Row → Table → Course Table
put_sum term upper lower table = and_then (looked_at (divided (sum_of term upper lower))) (λ row. put_derived row table)

-- the sums of an upper row with each lower row
abbrev pub put_sums : ℕ → Row → List Entry → Table → Course Table
put_sums term upper [] table = Ok table
put_sums term upper (lower ∷ lowers) table = and_then (put_sum term upper lower.row table) (put_sums term upper lowers)

-- those of each upper row
abbrev pub put_all_sums : ℕ → List Entry → List Entry → Table → Course Table
put_all_sums term [] lowers table = Ok table
put_all_sums term (upper ∷ uppers) lowers table = and_then (put_sums term upper.row lowers table) (put_all_sums term uppers lowers)

-- the table with a stage's pairs counted, of all stages at most 200,000
abbrev pub counted : ℕ → Table → Course Table
counted more table = if ltb 200000 (table.pairs + more) then Err (wide_pairs (table.pairs + more)) else Ok (record { entries = table.entries; next = table.next; pairs = table.pairs + more })

-- a stage up to where the rows with its term are set aside
abbrev pub stage : ℕ → Table → Course Table
stage term table = and_then (counted (pairs_of table.entries term) table) (put_all_sums term (filter (is_upper term) table.entries) (filter (is_lower term) table.entries))

abbrev pub without : ℕ → Table → Table
without term table = record { entries = filter (λ entry. not (has_term term entry)) table.entries; next = table.next; pairs = table.pairs }

-- ---- the way back

-- the values found so far, by term
abbrev pub Values : Type 0
Values = List (ℕ × ℤ)

abbrev pub value_in : Values → ℕ → ℤ
value_in [] term = pos 0
value_in (found ∷ rest) term = if found.0 == term then found.1 else value_in rest term

-- a sum and the form's products, but for the term's, from the left; ends at the first sum beyond 2^125
abbrev pub sum_without : Values → ℕ → ℤ → Form → Course ℤ
sum_without values term sum [] = Ok sum
sum_without values term sum (part ∷ rest) = if part.1 == term then sum_without values term sum rest
    else and_then (within 125 (sum +ℤ part.0 *ℤ value_in values part.1)) (λ more. sum_without values term more rest)

-- what the row leaves to the term: its coefficient times the term's value is at most this
abbrev pub slack : Values → ℕ → Row → Course ℤ
slack values term row = and_then (sum_without values term (pos 0) row.form) (λ sum. Ok (row.bound -ℤ sum))

-- a limit on the term's value, with the row that sets it
abbrev pub Limit : Type 0
Limit = ℤ × Entry

-- the strictest limits so far
pub record Limits : Type 0 where
  pub least : Option Limit
  pub greatest : Option Limit

abbrev pub lesser : Option Limit → Limit → Option Limit
lesser None limit = Some limit
lesser (Some older) limit = if int_lt limit.0 older.0 then Some limit else Some older

abbrev pub greater : Option Limit → Limit → Option Limit
greater None limit = Some limit
greater (Some older) limit = if int_lt older.0 limit.0 then Some limit else Some older

-- an upper row allows whole numbers up to the slack over its coefficient, a lower one those from the rounded up quotient on
abbrev pub tightened : ℕ → Entry → ℤ → Limits → Limits
tightened term entry left limits = if is_upper term entry
    then record { least = limits.least; greatest = lesser limits.greatest (int_div_euclid left (coefficient_at term entry), entry) }
    else record { least = greater limits.least (neg_ℤ (int_div_euclid left (pos (unsigned_abs (coefficient_at term entry)))), entry); greatest = limits.greatest }

-- the limits of these rows too, by number
abbrev pub limits_of : Values → ℕ → List Entry → Limits → Course Limits
limits_of values term [] limits = Ok limits
limits_of values term (entry ∷ entries) limits = and_then (slack values term entry.row) (λ left. limits_of values term entries (tightened term entry left limits))

-- the smaller number first
abbrev pub gap_of : Entry → Entry → Ending
gap_of e f = if ltb e.number f.number then gap e f else gap f e

-- the least value allowed, else the greatest, else 0
abbrev pub chosen : Option Limit → Option Limit → Course ℤ
chosen (Some least) (Some greatest) = if int_lt greatest.0 least.0 then Err (gap_of least.1 greatest.1) else Ok least.0
chosen (Some least) None = Ok least.0
chosen None (Some greatest) = Ok greatest.0
chosen None None = Ok (pos 0)

abbrev pub no_limits : Limits
no_limits = record { least = None; greatest = None }

-- the values with one for the term, which these rows were set aside for
abbrev pub give : ℕ → List Entry → Values → Course Values
give term entries values = and_then (limits_of values term entries no_limits)
    (λ limits. and_then (chosen limits.least limits.greatest) (λ value. and_then (within 94 value) (λ v. Ok ((term, value) ∷ values))))

-- ---- the whole

-- from this table on the elimination takes that course, and then its way back
pub data Solves : Table → Course Values → Type 0 where
  no_variable : (table : Table) → ((term : ℕ) → occurs table.entries term ≡ false) → Solves table (Ok [])
  stage_ends : (table : Table) (term : ℕ) (ending : Ending) → IsNext table.entries term → stage term table ≡ Err ending → Solves table (Err ending)
  stage_done : (table after : Table) (term : ℕ) (course whole : Course Values) → IsNext table.entries term → stage term table ≡ Ok after
      → Solves (without term after) course → whole ≡ and_then course (give term (filter (has_term term) after.entries)) → Solves table whole

pub data Decides (rows : List Row) : Course Values → Type 0 where
  rows_end : (ending : Ending) → put_given 0 rows [] ≡ Err ending → Decides rows (Err ending)
  rows_put : (entries : List Entry) (course : Course Values) → put_given 0 rows [] ≡ Ok entries
      → Solves (record { entries = entries; next = length rows; pairs = 0 }) course → Decides rows course

-- the least number above all terms of the rows
abbrev pub end_of_all : List Row → ℕ
end_of_all [] = 0
end_of_all (row ∷ rows) = max (end_of row.form) (end_of_all rows)

-- the values of `count` terms from that one on
abbrev pub listed : Values → ℕ → ℕ → List ℤ
listed values low zero = []
listed values low (suc count) = value_in values low ∷ listed values (suc low) count

-- the outcome tells the course
abbrev pub Tells : List Row → Course Values → Outcome → Type 0
Tells rows course (Refuted steps) = course ≡ Err refuted
Tells rows course (Point point) = (values : Values) × (course ≡ Ok values) × (point ≡ listed values 0 (end_of_all rows))
Tells rows course (WideForms count) = course ≡ Err (wide_forms count)
Tells rows course (WidePairs count) = course ≡ Err (wide_pairs count)
Tells rows course (WideNumber number) = course ≡ Err (wide_number number)
Tells rows course (Gap i first j second) = course ≡ Err (gap (record { number = i; row = first }) (record { number = j; row = second }))

-- this is the outcome of the elimination of the rows
abbrev pub HasOutcome : List Row → Outcome → Type 0
HasOutcome rows outcome = (course : Course Values) × Decides rows course × Tells rows course outcome
