-- Values at which the elimination ends meet the rows.
use Rattle.std.proofs.Common.{◌≡◌, ◌≢◌, ℕ, zero, suc, ◌+◌, ◌<◌, ◌≤◌, List, [], ◌∷◌, length, false, not, inl, inr, filter, ℤ, pos, refl, sym, ◌∙◌, ap, subst, arith}
use Rattle.std.proofs.lemmas.Bool.{cases_Bool, not-false, not_from_false}
use Rattle.std.proofs.lemmas.Bool.Decides.{Decides-int_eq}
use Rattle.std.proofs.lemmas.Int.{ints}
use Rattle.std.proofs.lemmas.List.Elements.{All-head}
use Rattle.std.proofs.Math.IntN.{◌*ℤ◌}
use Rattle.std.specs.Prelude.{Ok, All, ◌≤ℤ◌}
use Rattle.std.specs.Ordering.{int_eq}
use Rattle.jesc_linear.specs.declared.rows.Row.{Row}
use Rattle.jesc_linear.specs.Forms.{Form, value, coefficient_of, IsNonzero, IsForm}
use Rattle.jesc_linear.specs.Rows.{Meets, MeetsAll, value_at}
use Rattle.jesc_linear.specs.Sums.{end_of, sum_of}
use Rattle.jesc_linear.specs.Courses.{Entry, Course}
use Rattle.jesc_linear.specs.Elimination.{Table, Values, value_in, coefficient_at, has_term, occurs, stage, without, give, put_given, Solves, Decides, end_of_all, listed}
use Rattle.jesc_linear.specs.Elimination.Solves.{no_variable, stage_ends, stage_done}
use Rattle.jesc_linear.specs.Elimination.Decides.{rows_end, rows_put}
use Rattle.jesc_linear.proofs.Combined.{coefficient_here}
use Rattle.jesc_linear.proofs.Listed.{In, Every, in_all, all_in, from_filter, to_filter, any_false}
use Rattle.jesc_linear.proofs.Entered.{not_ok, goes_on, Lasts}
use Rattle.jesc_linear.proofs.Rounds.{given_back, given_on, stage_back, stage_on}
use Rattle.jesc_linear.proofs.Quotients.{divided_met}
use Rattle.jesc_linear.proofs.Reductions.{divided_is_form}
use Rattle.jesc_linear.proofs.Cancelled.{sum_form}
use Rattle.jesc_linear.proofs.Returning.{value_without, value_kept, MeetsEach, given_meets}

-- ---- entries in order

-- the form is in order and not empty
pub record InOrder (entry : Entry) : Type 0 where
  pub form : IsForm entry.row.form
  pub some : entry.row.form ≡ [] → ⊥

pub order_of_given : (rows : List Row) (entries : List Entry) → All (λ row. IsForm row.form) rows → put_given 0 rows [] ≡ Ok entries → Every InOrder entries
order_of_given rows entries forms e = given_on InOrder 0 rows [] entries e (λ x k. elim k [ ])
    (λ at row h some. record { form = divided_is_form row (in_all (λ r. IsForm r.form) rows forms row h); some = some })

pub order_of_stage : (term : ℕ) (table after : Table) → stage term table ≡ Ok after → Every InOrder table.entries → Every InOrder after.entries
order_of_stage term table after e order = stage_on InOrder term table after e order
    (λ at upper lower pair some. record { form = divided_is_form (sum_of term upper.row lower.row) (sum_form term upper.row lower.row); some = some })

pub order_of_rest : (term : ℕ) (table : Table) → Every InOrder table.entries → Every InOrder (without term table).entries
order_of_rest term table order x h = order x (from_filter (λ entry. not (has_term term entry)) x table.entries h).0

-- a form in order that isn't empty has a term
some_term : (form : Form) → IsForm form → (form ≡ [] → ⊥) → (term : ℕ) × (coefficient_of form term ≢ pos 0)
some_term [] f some = absurd (some refl)
some_term (part ∷ rest) f some = (part.1, λ none. All-head IsNonzero part rest f.nonzero (sym (coefficient_here part rest) ∙ none))

has_none : (c : ℤ) → not (int_eq c (pos 0)) ≡ false → c ≡ pos 0
has_none c e = (Decides-int_eq c (pos 0)).0 (not-false (int_eq c (pos 0)) e)

pub lacks : (term : ℕ) (entry : Entry) → has_term term entry ≡ false → coefficient_at term entry ≡ pos 0
lacks term entry e = has_none (coefficient_at term entry) e

-- where no term occurs there is no entry
no_entry : (entries : List Entry) → Every InOrder entries → ((term : ℕ) → occurs entries term ≡ false) → (x : Entry) → In x entries → ⊥
no_entry entries order none x h =
    let some = some_term x.row.form (order x h).form (order x h).some in
    some.1 (lacks some.0 x (any_false (has_term some.0) entries (none some.0) x h))

-- ---- what meets the rows after a stage

abbrev pub Holds : (ℕ → ℤ) → Form → ℤ → Type 0
Holds v form bound = value v form ≤ℤ bound

pub holds_lasts : (v : ℕ → ℤ) → Lasts (Holds v)
holds_lasts v = record { looser = λ form less more h l. omega (arith, ints, h, l); empty = λ bound l. l }

-- a value for the term changes nothing for the rows without it
pub rest_meets : (values : Values) (term : ℕ) (z : ℤ) (table : Table) → Every InOrder table.entries → MeetsEach (value_in values) (without term table).entries
    → (x : Entry) → In x table.entries → has_term term x ≡ false → Meets (value_in ((term, z) ∷ values)) x.row
rest_meets values term z table order meets x h lacking =
    let here : In x (without term table).entries = to_filter (λ entry. not (has_term term entry)) x table.entries h (not_from_false (has_term term x) lacking) in
    let same = value_without (value_in values) (value_in ((term, z) ∷ values)) term 0 x.row.form (value_kept values term z) (order x h).form.rises (lacks term x lacking) in
    omega (arith, ints, same, meets x here)

stage_meets : (term : ℕ) (table after : Table) (values found : Values) → Every InOrder table.entries → stage term table ≡ Ok after
    → MeetsEach (value_in values) (without term after).entries → give term (filter (has_term term) after.entries) values ≡ Ok found
    → MeetsEach (value_in found) table.entries
stage_meets term table after values found order e meets g =
    let held : List Entry = filter (has_term term) after.entries in
    let later : Every InOrder after.entries = order_of_stage term table after e order in
    let given = given_meets values term held found (λ x k. (from_filter (has_term term) x after.entries k).1)
    (λ x k. (later x (from_filter (has_term term) x after.entries k).0).form.rises) g in
    let z : ℤ = given.0 in
    let all : MeetsEach (value_in ((term, z) ∷ values)) after.entries = λ x k. elim (cases_Bool (has_term term x)) [
      | inl held_one ↦ given.2 x (to_filter (has_term term) x after.entries k held_one)
      | inr lacking ↦ rest_meets values term z after later meets x k lacking
    ] in
    subst (λ v. MeetsEach (value_in v) table.entries) (sym given.1) (stage_back (Holds (value_in ((term, z) ∷ values))) (holds_lasts (value_in ((term, z) ∷ values))) term table after e all).0

pub solution_meets : (table : Table) (course : Course Values) (values : Values) → Solves table course → course ≡ Ok values → Every InOrder table.entries
    → MeetsEach (value_in values) table.entries
solution_meets table course values (no_variable t none) e order = λ x h. absurd (no_entry table.entries order none x h)
solution_meets table course values (stage_ends t term ending next s) e order = absurd (not_ok values ending e)
solution_meets table course values (stage_done t after term later whole next s rest w) e order =
    let step = goes_on later (give term (filter (has_term term) after.entries)) values (sym w ∙ e) in
    stage_meets term table after step.0 values order s
    (solution_meets (without term after) later step.0 rest step.1 (order_of_rest term after (order_of_stage term table after s order))) step.2

-- ---- the point

listed_at : (values : Values) (low count t : ℕ) → t < count → value_at (listed values low count) t ≡ value_in values (low + t)
listed_at values low zero t l = absurd (omega arith)
listed_at values low (suc count) zero l = ap (value_in values) (omega arith)
listed_at values low (suc count) (suc t) l = listed_at values (suc low) count t (omega arith) ∙ ap (value_in values) (omega arith)

same_value : (v w : ℕ → ℤ) (n : ℕ) (form : Form) → end_of form ≤ n → ((t : ℕ) → t < n → v t ≡ w t) → value v form ≡ value w form
same_value v w n [] l same = refl
same_value v w n (part ∷ rest) l same =
    omega (arith, ints, same_value v w n rest (omega arith) same, ap (λ x. part.0 *ℤ x) (same part.1 (omega arith)))

under_end : (row : Row) (rows : List Row) → In row rows → end_of row.form ≤ end_of_all rows
under_end row [] h = elim h [ ]
under_end row (other ∷ rows) (inl same) = let e = ap (λ (r : Row). end_of r.form) same in omega (arith, e)
under_end row (other ∷ rows) (inr h) = let l = under_end row rows h in omega (arith, l)

-- the values that are found, as a list, meet each row
pub point_meets : (rows : List Row) (values : Values) → All (λ row. IsForm row.form) rows → Decides rows (Ok values)
    → MeetsAll (value_at (listed values 0 (end_of_all rows))) rows
point_meets rows values forms decides = met rows (Ok values) values forms decides refl
  where
    met : (rows : List Row) (course : Course Values) (values : Values) → All (λ row. IsForm row.form) rows → Decides rows course → course ≡ Ok values
        → MeetsAll (value_at (listed values 0 (end_of_all rows))) rows
    met rows course values forms (rows_end ending s) e = absurd (not_ok values ending e)
    met rows course values forms (rows_put entries c s solves) e =
        let order = order_of_given rows entries forms s in
        let v : ℕ → ℤ = value_in values in
        let meets = solution_meets (record { entries = entries; next = length rows; pairs = 0 }) course values solves e order in
        let given = given_back (Holds v) (holds_lasts v) 0 rows [] entries s meets in
        all_in (Meets (value_at (listed values 0 (end_of_all rows)))) rows (λ row h.
        let own : Meets v row = divided_met v row (given.1 row h) in
        let same = same_value (value_at (listed values 0 (end_of_all rows))) v (end_of_all rows) row.form (under_end row rows h)
        (λ t l. listed_at values 0 (end_of_all rows) t l ∙ ap v (omega arith)) in
        omega (arith, ints, own, same))
