-- Which courses end in no gap.
use Rattle.std.proofs.Common.{◌≡◌, ℕ, suc, ◌+◌, ◌==◌, List, [], ◌∷◌, length, Bool, true, false, cond, ltb, ◌⊎◌, inl, inr, filter, ℤ, pos, refl, ap, subst}
use Rattle.std.proofs.Math.IntN.{◌+ℤ◌, ◌-ℤ◌, ◌*ℤ◌}
use Rattle.std.specs.Prelude.{Result, Ok, Err, unsigned_abs, ◌^◌}
use Rattle.jesc_linear.specs.declared.rows.Row.{Row}
use Rattle.jesc_linear.specs.Forms.{Form}
use Rattle.jesc_linear.specs.Divisors.{divided}
use Rattle.jesc_linear.specs.Courses.{Entry, Ending, Course, and_then, within, look_at_form, looked_at}
use Rattle.jesc_linear.specs.Courses.Ending.{refuted, wide_forms, wide_pairs, wide_number, gap}
use Rattle.jesc_linear.specs.Elimination.{Table, Values, value_in, is_absurd, stays, entered, limited, put_row, put_given, put_derived, put_sum, put_sums, put_all_sums, counted, stage, pairs_of, is_upper, is_lower, sum_without, slack, Limits, tightened, limits_of}
use Rattle.jesc_linear.proofs.Rounds.{sum_row}

abbrev pub IsOther : Ending → Type 0
IsOther refuted = Unit {0}
IsOther (wide_forms count) = Unit {0}
IsOther (wide_pairs count) = Unit {0}
IsOther (wide_number number) = Unit {0}
IsOther (gap first second) = ⊥

abbrev pub NoGap : {A : Type 0} → Course A → Type 0
NoGap (Ok a) = Unit {0}
NoGap (Err ending) = IsOther ending

pub none_then : {A B : Type 0} (c : Course A) (f : A → Course B) → NoGap c → ((a : A) → NoGap (f a)) → NoGap (and_then c f)
none_then (Ok a) f h k = k a
none_then (Err ending) f h k = h

pub no_gap : {A : Type 0} (c : Course A) (e f : Entry) → NoGap c → c ≡ Err (gap e f) → ⊥
no_gap c e f h same = subst NoGap same h

none_chosen : {A : Type 0} (t : Bool) (c d : Course A) → NoGap c → NoGap d → NoGap (cond t c d)
none_chosen true c d h k = h
none_chosen false c d h k = k

pub none_within : (power : ℕ) (number : ℤ) → NoGap (within power number)
none_within power number = none_chosen (ltb (2 ^ power) (unsigned_abs number)) (Err (wide_number number)) (Ok number) tt tt

none_looked_form : (form : Form) → NoGap (look_at_form form)
none_looked_form [] = tt
none_looked_form (part ∷ rest) = none_then (within 31 part.0) (λ n. look_at_form rest) (none_within 31 part.0) (λ n. none_looked_form rest)

none_looked : (row : Row) → NoGap (looked_at row)
none_looked row = none_then (look_at_form row.form) (λ u. and_then (within 94 row.bound) (λ n. Ok row)) (none_looked_form row.form)
    (λ u. none_then (within 94 row.bound) (λ n. Ok row) (none_within 94 row.bound) (λ n. tt))

none_put : (number : ℕ) (row : Row) (entries : List Entry) → NoGap (put_row number row entries)
none_put number row entries = none_chosen (is_absurd row) (Err refuted) (cond (stays entries row) (limited (entered number row entries)) (Ok entries)) tt
    (none_chosen (stays entries row) (limited (entered number row entries)) (Ok entries)
    (none_chosen (ltb 3000 (length (entered number row entries))) (Err (wide_forms (length (entered number row entries)))) (Ok (entered number row entries)) tt tt) tt)

pub none_given : (number : ℕ) (rows : List Row) (entries : List Entry) → NoGap (put_given number rows entries)
none_given number [] entries = tt
none_given number (row ∷ rows) entries =
    none_then (looked_at row) (λ r. and_then (put_row number (divided row) entries) (put_given (suc number) rows)) (none_looked row)
    (λ r. none_then (put_row number (divided row) entries) (put_given (suc number) rows) (none_put number (divided row) entries) (λ x. none_given (suc number) rows x))

none_derived : (row : Row) (table : Table) → NoGap (put_derived row table)
none_derived row table = none_then (put_row table.next row table.entries)
    (λ entries. Ok (record { entries = entries; next = cond (stays table.entries row) (suc table.next) table.next; pairs = table.pairs })) (none_put table.next row table.entries) (λ x. tt)

none_sum : (term : ℕ) (upper lower : Row) (table : Table) → NoGap (put_sum term upper lower table)
none_sum term upper lower table = none_then (looked_at (sum_row term upper lower)) (λ row. put_derived row table) (none_looked (sum_row term upper lower)) (λ row. none_derived row table)

none_sums : (term : ℕ) (upper : Row) (lowers : List Entry) (table : Table) → NoGap (put_sums term upper lowers table)
none_sums term upper [] table = tt
none_sums term upper (lower ∷ lowers) table =
    none_then (put_sum term upper lower.row table) (put_sums term upper lowers) (none_sum term upper lower.row table) (λ t. none_sums term upper lowers t)

none_all_sums : (term : ℕ) (uppers lowers : List Entry) (table : Table) → NoGap (put_all_sums term uppers lowers table)
none_all_sums term [] lowers table = tt
none_all_sums term (upper ∷ uppers) lowers table =
    none_then (put_sums term upper.row lowers table) (put_all_sums term uppers lowers) (none_sums term upper.row lowers table) (λ t. none_all_sums term uppers lowers t)

pub none_stage : (term : ℕ) (table : Table) → NoGap (stage term table)
none_stage term table =
    let more : ℕ = pairs_of table.entries term in
    none_then (counted more table) (put_all_sums term (filter (is_upper term) table.entries) (filter (is_lower term) table.entries))
    (none_chosen (ltb 200000 (table.pairs + more)) (Err (wide_pairs (table.pairs + more))) (Ok (record { entries = table.entries; next = table.next; pairs = table.pairs + more })) tt tt)
    (λ t. none_all_sums term (filter (is_upper term) table.entries) (filter (is_lower term) table.entries) t)

none_summed : (values : Values) (term : ℕ) (sum : ℤ) (form : Form) → NoGap (sum_without values term sum form)
none_summed values term sum [] = tt
none_summed values term sum (part ∷ rest) =
    none_chosen (part.1 == term) (sum_without values term sum rest) (and_then (within 125 (sum +ℤ part.0 *ℤ value_in values part.1)) (λ more. sum_without values term more rest))
    (none_summed values term sum rest)
    (none_then (within 125 (sum +ℤ part.0 *ℤ value_in values part.1)) (λ more. sum_without values term more rest) (none_within 125 (sum +ℤ part.0 *ℤ value_in values part.1))
    (λ more. none_summed values term more rest))

pub none_limits : (values : Values) (term : ℕ) (entries : List Entry) (limits : Limits) → NoGap (limits_of values term entries limits)
none_limits values term [] limits = tt
none_limits values term (entry ∷ entries) limits =
    none_then (slack values term entry.row) (λ left. limits_of values term entries (tightened term entry left limits))
    (none_then (sum_without values term (pos 0) entry.row.form) (λ sum. Ok (entry.row.bound -ℤ sum)) (none_summed values term (pos 0) entry.row.form) (λ sum. tt))
    (λ left. none_limits values term entries (tightened term entry left limits))

pub err_is : {A B : Type 0} (a b : B) → Path (Result A B) (Err a) (Err b) → a ≡ b
err_is a b e = cc

-- an ending of the second step, where the first has none of its kind
pub ends_later : {A B : Type 0} (c : Course A) (f : A → Course B) (e g : Entry) → NoGap c → and_then c f ≡ Err (gap e g) → (a : A) × (c ≡ Ok a) × (f a ≡ Err (gap e g))
ends_later (Ok a) f e g h same = (a, refl, same)
ends_later (Err ending) f e g h same = absurd (no_gap (Err ending) e g h same)

-- on the way back the ending is that of the later course, or this stage's
pub later_or_here : (later : Course Values) (f : Values → Course Values) (ending : Ending) → and_then later f ≡ Err ending
    → (later ≡ Err ending) ⊎ ((values : Values) × (later ≡ Ok values) × (f values ≡ Err ending))
later_or_here (Ok values) f ending e = inr (values, refl, e)
later_or_here (Err other) f ending e = inl (ap (λ (x : Ending). Err x) (err_is other ending e))
