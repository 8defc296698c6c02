-- A stage of the elimination: what holds of the table before and after, and of the sums that it puts in.
use Rattle.std.proofs.Common.{◌≡◌, ℕ, suc, ◌+◌, List, [], ◌∷◌, Bool, true, false, cond, ltb, inl, inr, refl, sym, ◌∙◌, ap, subst, filter, ℤ}
use Rattle.std.specs.Prelude.{Ok, Err}
use Rattle.jesc_linear.specs.declared.rows.Row.{Row}
use Rattle.jesc_linear.specs.Forms.{Form}
use Rattle.jesc_linear.specs.Divisors.{divided}
use Rattle.jesc_linear.specs.Sums.{sum_of}
use Rattle.jesc_linear.specs.Courses.{Entry, and_then, looked_at}
use Rattle.jesc_linear.specs.Courses.Ending.{wide_pairs}
use Rattle.jesc_linear.specs.Elimination.{Table, put_row, put_given, put_derived, put_sum, put_sums, put_all_sums, counted, stage, stays, is_upper, is_lower, pairs_of}
use Rattle.jesc_linear.proofs.Listed.{In, Every, from_filter, to_filter}
use Rattle.jesc_linear.proofs.Entered.{ok_is, not_ok, goes_on, looked_is, Lasts, Has, EachHas, put_back, put_on}

-- ---- the given rows

pub given_back : (P : Form → ℤ → Type 0) → Lasts P → (number : ℕ) (rows : List Row) (entries after : List Entry) → put_given number rows entries ≡ Ok after
    → EachHas P after → EachHas P entries × Every (λ row. Has P (divided row)) rows
given_back P l number [] entries after e every = (subst (EachHas P) (sym (ok_is entries after e)) every, λ x h. elim h [ ])
given_back P l number (row ∷ rows) entries after e every =
    let looked = goes_on (looked_at row) (λ r. and_then (put_row number (divided row) entries) (put_given (suc number) rows)) after e in
    let put = goes_on (put_row number (divided row) entries) (put_given (suc number) rows) after looked.2 in
    let rest = given_back P l (suc number) rows put.0 after put.2 every in
    let here = put_back P l number (divided row) entries put.0 put.1 rest.0 in
    (here.0, λ x h. elim h [ inl same ↦ subst (λ r. Has P (divided r)) (sym same) here.1 | inr later ↦ rest.1 x later ])

pub given_on : (Q : Entry → Type 0) (number : ℕ) (rows : List Row) (entries after : List Entry) → put_given number rows entries ≡ Ok after → Every Q entries
    → ((at : ℕ) (row : Row) → In row rows → ((divided row).form ≡ [] → ⊥) → Q (record { number = at; row = divided row })) → Every Q after
given_on Q number [] entries after e every own = subst (Every Q) (ok_is entries after e) every
given_on Q number (row ∷ rows) entries after e every own =
    let looked = goes_on (looked_at row) (λ r. and_then (put_row number (divided row) entries) (put_given (suc number) rows)) after e in
    let put = goes_on (put_row number (divided row) entries) (put_given (suc number) rows) after looked.2 in
    given_on Q (suc number) rows put.0 after put.2 (put_on Q number (divided row) entries put.0 put.1 every (λ some. own number row (inl refl) some))
    (λ at r h some. own at r (inr h) some)

-- ---- one sum

-- the sum as it is put in
abbrev pub sum_row : ℕ → Row → Row → Row
sum_row term upper lower = divided (sum_of term upper lower)

-- the row went into the table
put_in : (term : ℕ) (upper lower : Row) (table after : Table) → put_sum term upper lower table ≡ Ok after
    → put_row table.next (sum_row term upper lower) table.entries ≡ Ok after.entries
put_in term upper lower table after e =
    let looked = goes_on (looked_at (sum_row term upper lower)) (λ row. put_derived row table) after e in
    let row : Row = looked.0 in
    let same : sum_row term upper lower ≡ row = looked_is (sum_row term upper lower) row looked.1 in
    let put = goes_on (put_row table.next row table.entries)
    (λ entries. Ok (record { entries = entries; next = cond (stays table.entries row) (suc table.next) table.next; pairs = table.pairs })) after looked.2 in
    let made : put.0 ≡ after.entries = ap (λ (t : Table). t.entries) (ok_is _ after put.2) in
    subst (λ r. put_row table.next r table.entries ≡ Ok after.entries) (sym same) (put.1 ∙ ap (λ (x : List Entry). Ok x) made)

module _ (P : Form → ℤ → Type 0) (l : Lasts P) (term : ℕ) where
  sums_back : (upper : Row) (lowers : List Entry) (table after : Table) → put_sums term upper lowers table ≡ Ok after → EachHas P after.entries
      → EachHas P table.entries × Every (λ lower. Has P (sum_row term upper lower.row)) lowers
  sums_back upper [] table after e every = (subst (EachHas P) (sym (ap (λ (t : Table). t.entries) (ok_is table after e))) every, λ x h. elim h [ ])
  sums_back upper (lower ∷ lowers) table after e every =
      let first = goes_on (put_sum term upper lower.row table) (put_sums term upper lowers) after e in
      let rest = sums_back upper lowers first.0 after first.2 every in
      let here = put_back P l table.next (sum_row term upper lower.row) table.entries first.0.entries (put_in term upper lower.row table first.0 first.1) rest.0 in
      (here.0, λ x h. elim h [ inl same ↦ subst (λ (y : Entry). Has P (sum_row term upper y.row)) (sym same) here.1 | inr later ↦ rest.1 x later ])

  all_sums_back : (uppers lowers : List Entry) (table after : Table) → put_all_sums term uppers lowers table ≡ Ok after → EachHas P after.entries
      → EachHas P table.entries × Every (λ upper. Every (λ lower. Has P (sum_row term upper.row lower.row)) lowers) uppers
  all_sums_back [] lowers table after e every = (subst (EachHas P) (sym (ap (λ (t : Table). t.entries) (ok_is table after e))) every, λ x h. elim h [ ])
  all_sums_back (upper ∷ uppers) lowers table after e every =
      let first = goes_on (put_sums term upper.row lowers table) (put_all_sums term uppers lowers) after e in
      let rest = all_sums_back uppers lowers first.0 after first.2 every in
      let here = sums_back upper.row lowers table first.0 first.1 rest.0 in
      (here.0, λ x h. elim h [ inl same ↦ subst (λ (y : Entry). Every (λ lower. Has P (sum_row term y.row lower.row)) lowers) (sym same) here.1 | inr later ↦ rest.1 x later ])

module _ (Q : Entry → Type 0) (term : ℕ) where
  sums_on : (upper : Row) (lowers : List Entry) (table after : Table) → put_sums term upper lowers table ≡ Ok after → Every Q table.entries
      → ((at : ℕ) (lower : Entry) → In lower lowers → ((sum_row term upper lower.row).form ≡ [] → ⊥) → Q (record { number = at; row = sum_row term upper lower.row }))
      → Every Q after.entries
  sums_on upper [] table after e every own = subst (Every Q) (ap (λ (t : Table). t.entries) (ok_is table after e)) every
  sums_on upper (lower ∷ lowers) table after e every own =
      let first = goes_on (put_sum term upper lower.row table) (put_sums term upper lowers) after e in
      let here = put_on Q table.next (sum_row term upper lower.row) table.entries first.0.entries (put_in term upper lower.row table first.0 first.1) every
      (λ some. own table.next lower (inl refl) some) in
      sums_on upper lowers first.0 after first.2 here (λ at x h some. own at x (inr h) some)

  all_sums_on : (uppers lowers : List Entry) (table after : Table) → put_all_sums term uppers lowers table ≡ Ok after → Every Q table.entries
      → ((at : ℕ) (upper lower : Entry) → In upper uppers → In lower lowers → ((sum_row term upper.row lower.row).form ≡ [] → ⊥) → Q (record { number = at; row = sum_row term upper.row lower.row }))
      → Every Q after.entries
  all_sums_on [] lowers table after e every own = subst (Every Q) (ap (λ (t : Table). t.entries) (ok_is table after e)) every
  all_sums_on (upper ∷ uppers) lowers table after e every own =
      let first = goes_on (put_sums term upper.row lowers table) (put_all_sums term uppers lowers) after e in
      let here = sums_on upper.row lowers table first.0 first.1 every (λ at x h some. own at upper x (inl refl) h some) in
      all_sums_on uppers lowers first.0 after first.2 here (λ at y x k h some. own at y x (inr k) h some)

-- ---- a stage

counted_is : (more : ℕ) (table after : Table) → counted more table ≡ Ok after → table.entries ≡ after.entries
counted_is more table after e = by (ltb 200000 (table.pairs + more)) e
  where
    by : (t : Bool) → cond t (Err (wide_pairs (table.pairs + more))) (Ok (record { entries = table.entries; next = table.next; pairs = table.pairs + more })) ≡ Ok after
        → table.entries ≡ after.entries
    by true e = absurd (not_ok after (wide_pairs (table.pairs + more)) e)
    by false e = ap (λ (t : Table). t.entries) (ok_is _ after e)

-- the pairs of an upper and a lower row of the table
abbrev pub IsPair : ℕ → List Entry → Entry → Entry → Type 0
IsPair term entries upper lower = In upper entries × (is_upper term upper ≡ true) × In lower entries × (is_lower term lower ≡ true)

pub stage_back : (P : Form → ℤ → Type 0) → Lasts P → (term : ℕ) (table after : Table) → stage term table ≡ Ok after → EachHas P after.entries
    → EachHas P table.entries × ((upper lower : Entry) → IsPair term table.entries upper lower → Has P (sum_row term upper.row lower.row))
stage_back P l term table after e every =
    let uppers : List Entry = filter (is_upper term) table.entries in
    let lowers : List Entry = filter (is_lower term) table.entries in
    let first = goes_on (counted (pairs_of table.entries term) table) (put_all_sums term uppers lowers) after e in
    let all = all_sums_back P l term uppers lowers first.0 after first.2 every in (
      subst (EachHas P) (sym (counted_is (pairs_of table.entries term) table first.0 first.1)) all.0,
      λ upper lower pair. all.1 upper (to_filter (is_upper term) upper table.entries pair.0 pair.1) lower (to_filter (is_lower term) lower table.entries pair.2 pair.3),
    )

pub stage_on : (Q : Entry → Type 0) (term : ℕ) (table after : Table) → stage term table ≡ Ok after → Every Q table.entries
    → ((at : ℕ) (upper lower : Entry) → IsPair term table.entries upper lower → ((sum_row term upper.row lower.row).form ≡ [] → ⊥)
    → Q (record { number = at; row = sum_row term upper.row lower.row }))
    → Every Q after.entries
stage_on Q term table after e every own =
    let uppers : List Entry = filter (is_upper term) table.entries in
    let lowers : List Entry = filter (is_lower term) table.entries in
    let first = goes_on (counted (pairs_of table.entries term) table) (put_all_sums term uppers lowers) after e in
    let before : Every Q first.0.entries = subst (Every Q) (counted_is (pairs_of table.entries term) table first.0 first.1) every in
    all_sums_on Q term uppers lowers first.0 after first.2 before (λ at upper lower h k some.
    let u = from_filter (is_upper term) upper table.entries h in
    let v = from_filter (is_lower term) lower table.entries k in
    own at upper lower (u.0, u.1, v.0, v.1) some)
