-- The step that makes a sum is derived, and how the course of the pairs goes on.
use Rattle.std.proofs.Common.{◌≡◌, ℕ, suc, ◌+◌, ◌<◌, ◌≤◌, ◌^◌, Bool, true, if◌then◌else◌, List, length, get_or, drop, ℤ, pos, refl, sym, ◌∙◌, ap, subst, arith, inl, inr, Option, Some, Result, Ok, Err}
use Rattle.std.proofs.lemmas.Int.{ints}
use Rattle.std.proofs.lemmas.Bool.{cases_lt}
use Rattle.std.proofs.lemmas.List.{at_drop_more}
use Rattle.std.specs.Prelude.{◌+ℤ◌, ◌*ℤ◌, ◌≤ℤ◌, ◌<ℤ◌, All, slice_get, unsigned_abs}
use Rattle.std.specs.Int.{int_div_euclid}
use Rattle.std.specs.Result.{IsErrAnd}
use Rattle.jesc_linear.specs.declared.rows.Row.{Row}
use Rattle.jesc_linear.specs.declared.rows.LinStep.{LinStep}
use Rattle.jesc_linear.specs.declared.stop.Stop.{Stop}
use Rattle.jesc_linear.specs.declared.stop.Stop.TheVariants.{Memory, Absurd, Forms, Pairs, Number, Gap}
use Rattle.jesc_linear.specs.declared.stop.Slot.{Slot}
use Rattle.jesc_linear.specs.Forms.{coefficient_of, IsForm}
use Rattle.jesc_linear.specs.Divisors.{divided, divisor_of}
use Rattle.jesc_linear.specs.Sums.{added, combined}
use Rattle.jesc_linear.specs.Steps.{IsRow, Derives, DerivesFrom}
use Rattle.jesc_linear.specs.Courses.{Course, Entry, and_then, look_at_form, looked_at}
use Rattle.jesc_linear.specs.Elimination.{Table, stays, put_row, put_derived, put_sum, put_sums, put_all_sums}
use Rattle.jesc_linear.specs.Tables.{row_at, entries_of, IsSlot, Extends, IsEnd, Goes, Looks}
use Rattle.jesc_linear.proofs.Divisors.{divisor_positive, divisor_at_most}
use Rattle.jesc_linear.proofs.Merging.{added_is_form, added_coefficient, added_sizes}
use Rattle.jesc_linear.proofs.Tables.{row_at_extended, entries_kept}
use Rattle.jesc_linear.proofs.Reductions.{stopped_by_form, stopped_by_bound, looked_at_by, looked_is_row, divided_is_form, divided_coefficient}

-- ---- the step

-- a row that was looked at is the row itself
pub looked_is_it : (row same : Row) → looked_at row ≡ Ok same → same ≡ row
looked_is_it row same e = by (look_at_form row.form) refl
  where
    by : (c : Course (Unit {0})) → look_at_form row.form ≡ c → same ≡ row
    by (Err ending) k = absurd (let s = stopped_by_form row ending k in cc)
    by (Ok u) k = elim (cases_lt (2 ^ 94) (unsigned_abs row.bound)) [
      | inl wide ↦ absurd (let s = stopped_by_bound row k wide in cc)
      | inr here ↦ (let s = looked_at_by row k here in cc)
    ]

pub combination_derives : (first second : Row) (step : LinStep) → IsRow first → IsRow second
    → pos 1 ≤ℤ step.a → unsigned_abs step.a ≤ 2 ^ 31 → pos 1 ≤ℤ step.b → unsigned_abs step.b ≤ 2 ^ 31
    → step.d ≡ pos (divisor_of (added step.a first.form step.b second.form))
    → looked_at (divided (combined step.a first step.b second)) ≡ Ok step.row → Derives first second step
combination_derives first second step f g al ah bl bh d look =
    let form = added step.a first.form step.b second.form in
    let whole = combined step.a first step.b second in
    let in_order : IsForm form = added_is_form step.a first.form step.b second.form in
    let is : step.row ≡ divided whole = looked_is_it (divided whole) step.row look in
    let low = divisor_positive form in
    let high = divisor_at_most form (2 ^ 63) (added_sizes step.a first.form step.b second.form ah bh f.narrow g.narrow) (omega arith) in
    record {
      range = record {
        a_low = al;
        a_high = omega (arith, ints, ah);
        b_low = omega (arith, ints, bl);
        b_high = omega (arith, ints, bh);
        d_low = omega (arith, ints, d, low);
        d_high = omega (arith, ints, d, high);
      };
      first_row = f;
      second_row = g;
      made_row = subst IsRow (sym is) (looked_is_row (divided whole) step.row (divided_is_form whole in_order) look);
      form = λ t. ap (λ (z : ℤ). z *ℤ coefficient_of step.row.form t) d
          ∙ (ap (λ (r : Row). pos (divisor_of form) *ℤ coefficient_of r.form t) is
          ∙ (divided_coefficient whole t ∙ added_coefficient step.a first.form step.b second.form t));
      bound = ap (λ (r : Row). r.bound) is ∙ ap (int_div_euclid (step.a *ℤ first.bound +ℤ step.b *ℤ second.bound)) (sym d);
    }

pub derives_from : (table : List Row) (i j : ℕ) (first second : Row) (step : LinStep) → slice_get table i ≡ Some first → slice_get table j ≡ Some second → Derives first second step
    → DerivesFrom (slice_get table i) (slice_get table j) step
derives_from table i j first second step e g h =
    subst (λ (x : Option Row). DerivesFrom x (slice_get table j) step) (sym e) (subst (λ (y : Option Row). DerivesFrom (Some first) y step) (sym g) h)

-- ---- what stops

pub ends_then : {A B : Type 0} (log : List LinStep) (s : Stop) (course : Course A) (f : A → Course B) → IsEnd log s course → IsEnd log s (and_then course f)
ends_then log Memory course f h = tt
ends_then log Absurd course f h = (ap (λ c. and_then c f) h.0, h.1)
ends_then log (Forms count) course f h = ap (λ c. and_then c f) h
ends_then log (Pairs count) course f h = ap (λ c. and_then c f) h
ends_then log (Number number) course f h = ap (λ c. and_then c f) h
ends_then log (Gap first second) course f h = ap (λ c. and_then c f) h

pub looks_then : {A C : Type 0} (B : Type 0) (log : List LinStep) (v : B → A) (course : Course A) (f : A → Course C) (s : Stop) → Looks v course (Err s) → IsEnd log s (and_then course f)
looks_then B log v course f Memory h = tt
looks_then B log v course f Absurd h = absurd h
looks_then B log v course f (Forms count) h = absurd h
looks_then B log v course f (Pairs count) h = absurd h
looks_then B log v course f (Number number) h = ap (λ c. and_then c f) h
looks_then B log v course f (Gap first second) h = absurd h

-- what a `?` hands on
pub handed_on : {A B : Type 0} (log : List LinStep) (view : B → A) (course : Course A) (s : Stop) (r : Result B Stop) → IsErrAnd r (λ y. y ≡ s) → IsEnd log s course → Goes log view course r
handed_on log view course s (Ok x) e h = absurd e
handed_on log view course s (Err t) e h = subst (λ (x : Stop). IsEnd log x course) (sym e) h

-- ---- a derived row that stays

pub derived_stays : (row : Row) (table : Table) (entries : List Entry) (b : Bool) (next pairs : ℕ) → put_row table.next row table.entries ≡ Ok entries
    → b ≡ stays table.entries row → b ≡ true → next ≡ table.next + 1 → pairs ≡ table.pairs
    → put_derived row table ≡ Ok (record { entries = entries; next = next; pairs = pairs })
derived_stays row table entries b next pairs e s t n p =
    let stayed : stays table.entries row ≡ true = sym s ∙ t in
    let number : suc table.next ≡ next = omega arith in
    let f : List Entry → Bool → Course Table = λ es c. Ok (record { entries = es; next = if c then suc table.next else table.next; pairs = table.pairs }) in
    ap (λ (c : Course (List Entry)). and_then c (λ es. f es (stays table.entries row))) e
    ∙ (ap (f entries) stayed ∙ (λ i. Ok (record { entries = entries; next = number i; pairs = sym p i })))

-- ---- the pairs, over a log that goes on

module _ (term : ℕ) (old now : List LinStep) (h : Extends old now) where
  pub above_kept : (slot : Slot) → IsSlot old slot → pos 0 <ℤ coefficient_of (row_at old slot.at).form term → pos 0 <ℤ coefficient_of (row_at now slot.at).form term
  above_kept slot is p = subst (λ (r : Row). pos 0 <ℤ coefficient_of r.form term) (sym (row_at_extended old now slot.at h is.there)) p

  pub below_kept : (slot : Slot) → IsSlot old slot → coefficient_of (row_at old slot.at).form term <ℤ pos 0 → coefficient_of (row_at now slot.at).form term <ℤ pos 0
  below_kept slot is p = subst (λ (r : Row). coefficient_of r.form term <ℤ pos 0) (sym (row_at_extended old now slot.at h is.there)) p

  pub all_below_kept : (slots : List Slot) → All (IsSlot old) slots → All (λ lower. coefficient_of (row_at old lower.at).form term <ℤ pos 0) slots
      → All (λ lower. coefficient_of (row_at now lower.at).form term <ℤ pos 0) slots
  all_below_kept slots are p = λ k d l. below_kept (get_or slots k d) (are k d l) (p k d l)

  pub sum_kept : (upper lower : Slot) (table : Table) → IsSlot old upper → IsSlot old lower
      → put_sum term (row_at now upper.at) (row_at now lower.at) table ≡ put_sum term (row_at old upper.at) (row_at old lower.at) table
  sum_kept upper lower table u l = λ i. put_sum term (row_at_extended old now upper.at h u.there i) (row_at_extended old now lower.at h l.there i) table

  pub sums_kept : (upper : Slot) (lowers : List Slot) (table : Table) → IsSlot old upper → All (IsSlot old) lowers
      → put_sums term (row_at now upper.at) (entries_of now lowers) table ≡ put_sums term (row_at old upper.at) (entries_of old lowers) table
  sums_kept upper lowers table u ls = λ i. put_sums term (row_at_extended old now upper.at h u.there i) (entries_kept old now lowers h ls i) table

-- the next pair of an upper row
pub next_sum : (term : ℕ) (upper : Row) (log : List LinStep) (lowers : List Slot) (k : ℕ) (table : Table) → k < length lowers
    → put_sums term upper (entries_of log (drop k lowers)) table
    ≡ and_then (put_sum term upper (row_at log (get_or lowers k (record { number = 0; at = 0; mark = 0 })).at) table) (put_sums term upper (entries_of log (drop (k + 1) lowers)))
next_sum term upper log lowers k table l = at_drop_more (λ (slots : List Slot). put_sums term upper (entries_of log slots) table) lowers k (record { number = 0; at = 0; mark = 0 }) l

-- the next upper row
pub next_sums : (term : ℕ) (log : List LinStep) (uppers : List Slot) (lowers : List Entry) (k : ℕ) (table : Table) → k < length uppers
    → put_all_sums term (entries_of log (drop k uppers)) lowers table
    ≡ and_then (put_sums term (row_at log (get_or uppers k (record { number = 0; at = 0; mark = 0 })).at) lowers table) (put_all_sums term (entries_of log (drop (k + 1) uppers)) lowers)
next_sums term log uppers lowers k table l = at_drop_more (λ (slots : List Slot). put_all_sums term (entries_of log slots) lowers table) uppers k (record { number = 0; at = 0; mark = 0 }) l

-- a course goes on where its next part does, and ends where that ends
pub goes_on : {A : Type 0} (whole rest : Course A) (part : Course A) (f : A → Course A) (value : A) → whole ≡ rest → rest ≡ and_then part f → part ≡ Ok value → whole ≡ f value
goes_on whole rest part f value e g h = e ∙ (g ∙ ap (λ c. and_then c f) h)

pub ends_there : {A B : Type 0} (log : List LinStep) (s : Stop) (view : B → A) (r : Result B Stop) (whole rest part same : Course A) (f : A → Course A) → IsErrAnd r (λ y. y ≡ s)
    → whole ≡ rest → rest ≡ and_then part f → same ≡ part → IsEnd log s same → Goes log view whole r
ends_there log s view r whole rest part same f x e g p h =
    handed_on log view whole s r x (subst (IsEnd log s) (sym (e ∙ g)) (ends_then log s part f (subst (IsEnd log s) p h)))
