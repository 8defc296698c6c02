-- Counts of the rows that have a term: after one more row, and what they say of the term that goes next.
use Rattle.std.proofs.Common.{Less, Greater, Equal, ◌≡◌, ℕ, zero, suc, ◌+◌, ◌*◌, ◌<◌, ◌≤◌, ◌^◌, inl, inr, Bool, true, false, cond, eqb, not, ◌||◌, List, [], ◌∷◌, ◌++◌, length, get_or, take, filter, ℤ, pos, negsuc, refl, sym, ◌∙◌, ap, subst, arith}
use Rattle.std.specs.Prelude.{All, int_lt, MatchOption, Option, Some, None}
use Rattle.std.specs.List.{list_any}
use Rattle.std.specs.Ordering.{int_eq, is_eq}
use Rattle.std.proofs.lemmas.List.{length-append, get_or_past, take_more, map-append}
use Rattle.std.proofs.lemmas.List.Elements.{filter-append, All-head, All-tail}
use Rattle.std.proofs.lemmas.Bool.{cases_lt, false≢true}
use Rattle.std.proofs.lemmas.Bool.Decides.{nat_tests}
use Rattle.jesc_linear.specs.declared.rows.LinStep.{LinStep}
use Rattle.jesc_linear.specs.declared.stop.Slot.{Slot}
use Rattle.jesc_linear.specs.declared.choice.Count.{Count}
use Rattle.jesc_linear.specs.declared.choice.Choice.{Choice}
use Rattle.jesc_linear.specs.Forms.{Form, RisesFrom, IsForm, coefficient_of}
use Rattle.jesc_linear.specs.Courses.{Entry}
use Rattle.jesc_linear.specs.Elimination.{IsNext, occurs, pairs_of, has_term, is_upper, is_lower}
use Rattle.jesc_linear.specs.Tables.{row_at, entry_of, entries_of}
use Rattle.jesc_linear.specs.Counts.{count_at, more, no_rows, HasCounts, IsBest, IsLeast, rows_of, pairs_in}

-- ---- the parts of a form in order

later_term : (low : ℕ) (form : Form) (k : ℕ) (d : ℤ × ℕ) → RisesFrom low form → k < length form → low ≤ (get_or form k d).1
later_term low [] k d r l = absurd (omega arith)
later_term low (p ∷ form) zero d r l = r.0
later_term low (p ∷ form) (suc k) d r l = omega (arith, later_term (p.1 + 1) form k d r.1 (omega arith), r.0)

-- the parts before this one lack its term
not_before : (low : ℕ) (form : Form) (k : ℕ) (d : ℤ × ℕ) → RisesFrom low form → k < length form → coefficient_of (take k form) (get_or form k d).1 ≡ pos 0
not_before low [] k d r l = absurd (omega arith)
not_before low (p ∷ form) zero d r l = refl
not_before low (p ∷ form) (suc k) d r l =
    let before : p.1 + 1 ≤ (get_or form k d).1 = later_term (p.1 + 1) form k d r.1 (omega arith) in
    let rest : coefficient_of (take k form) (get_or form k d).1 ≡ pos 0 = not_before (p.1 + 1) form k d r.1 (omega arith) in
    grind (arith, nat_tests)

-- with one more part
coefficient_more : (low : ℕ) (form : Form) (k : ℕ) (d : ℤ × ℕ) (t : ℕ) → RisesFrom low form → k < length form
    → coefficient_of (take (suc k) form) t ≡ cond (eqb t (get_or form k d).1) (get_or form k d).0 (coefficient_of (take k form) t)
coefficient_more low [] k d t r l = absurd (omega arith)
coefficient_more low (p ∷ form) zero d t r l = grind (arith, nat_tests)
coefficient_more low (p ∷ form) (suc k) d t r l =
    let before : p.1 + 1 ≤ (get_or form k d).1 = later_term (p.1 + 1) form k d r.1 (omega arith) in
    let rest : coefficient_of (take (suc k) form) t ≡ cond (eqb t (get_or form k d).1) (get_or form k d).0 (coefficient_of (take k form) t) = coefficient_more (p.1 + 1) form k d t r.1 (omega arith) in
    grind (arith, nat_tests)

-- ---- counts with one more part, and one more row

more_nothing : (count : Count) → more count (pos 0) ≡ count
more_nothing count =
    let u : count.uppers + 0 ≡ count.uppers = omega arith in
    let l : count.lowers + 0 ≡ count.lowers = omega arith in
    ap (λ (n : ℕ). let made : Count = record { uppers = n; lowers = count.lowers + 0 } in made) u
    ∙ ap (λ (n : ℕ). let made : Count = record { uppers = count.uppers; lowers = n } in made) l

-- from the counts at the start, now and with this part
one_part : (here same : Bool) (start now new : Count) (before part after : ℤ) → now ≡ more start before
    → new ≡ cond here (more now part) now → after ≡ cond here part before → (here ≡ true → before ≡ pos 0) → new ≡ more start after
one_part true same start now new before part after n w a none =
    w ∙ ap (λ (c : Count). more c part) (n ∙ ap (more start) (none refl) ∙ more_nothing start) ∙ ap (more start) (sym a)
one_part false same start now new before part after n w a none = w ∙ n ∙ ap (more start) (sym a)

pub counted_part : (start now new : List Count) (form : Form) (k : ℕ) (d : ℤ × ℕ) → RisesFrom 0 form → k < length form
    → ((t : ℕ) → count_at now t ≡ more (count_at start t) (coefficient_of (take k form) t))
    → ((t : ℕ) → count_at new t ≡ cond (eqb t (get_or form k d).1) (more (count_at now t) (get_or form k d).0) (count_at now t))
    → (t : ℕ) → count_at new t ≡ more (count_at start t) (coefficient_of (take (suc k) form) t)
counted_part start now new form k d r l n w t =
    let part : ℤ × ℕ = get_or form k d in
    let none : eqb t part.1 ≡ true → coefficient_of (take k form) t ≡ pos 0 =
    λ e. (let same : t ≡ part.1 = grind (arith, nat_tests) in subst (λ (u : ℕ). coefficient_of (take k form) u ≡ pos 0) (sym same) (not_before 0 form k d r l)) in
    one_part (eqb t part.1) true (count_at start t) (count_at now t) (count_at new t) (coefficient_of (take k form) t) part.0 (coefficient_of (take (suc k) form) t)
    (n t) (w t) (coefficient_more 0 form k d t r l) none

length_passing : (b : Bool) (x : Entry) (xs : List Entry) → length (cond b (x ∷ xs) xs) ≡ length xs + cond b 1 0
length_passing true x xs = omega arith
length_passing false x xs = omega arith

filter_push : (p : Entry → Bool) (xs : List Entry) (x : Entry) → length (filter p (xs ++ x ∷ [])) ≡ length (filter p xs) + cond (p x) 1 0
filter_push p xs x = omega (arith, ap (length {A = Entry}) (filter-append p xs (x ∷ [])), length-append (filter p xs) (filter p (x ∷ [])), length_passing (p x) x [])

pub counted_row : (entries : List Entry) (entry : Entry) (counts new : List Count) → HasCounts entries counts → length new ≤ 2 ^ 32
    → ((t : ℕ) → count_at new t ≡ more (count_at counts t) (coefficient_of entry.row.form t)) → HasCounts (entries ++ entry ∷ []) new
counted_row entries entry counts new has few w = record {
  few = few;
  uppers = λ t. omega (arith, ap (λ (c : Count). c.uppers) (w t), has.uppers t, filter_push (is_upper t) entries entry);
  lowers = λ t. omega (arith, ap (λ (c : Count). c.lowers) (w t), has.lowers t, filter_push (is_lower t) entries entry);
}

pub counted_slot : (log : List LinStep) (slots : List Slot) (k : ℕ) (d : Slot) (counts new : List Count) → k < length slots
    → HasCounts (entries_of log (take k slots)) counts → length new ≤ 2 ^ 32
    → ((t : ℕ) → count_at new t ≡ more (count_at counts t) (coefficient_of (row_at log (get_or slots k d).at).form t))
    → HasCounts (entries_of log (take (k + 1) slots)) new
counted_slot log slots k d counts new l has few w =
    let slot = get_or slots k d in
    let one_more : entries_of log (take (k + 1) slots) ≡ entries_of log (take k slots) ++ entry_of log slot ∷ [] =
    ap (entries_of log) (take_more slots k d l) ∙ map-append (entry_of log) (take k slots) (slot ∷ []) in
    subst (λ (entries : List Entry). HasCounts entries new) (sym one_more) (counted_row (entries_of log (take k slots)) (entry_of log slot) counts new has few w)

pub form_in_log : (log : List LinStep) (at : ℕ) → All (λ step. IsForm step.row.form) log → at < length log → IsForm (row_at log at).form
form_in_log [] at are l = absurd (omega arith)
form_in_log (s ∷ log) zero are l = All-head (λ (step : LinStep). IsForm step.row.form) s log are
form_in_log (s ∷ log) (suc at) are l = form_in_log log at (All-tail (λ (step : LinStep). IsForm step.row.form) s log are) (omega arith)

-- ---- the term that goes next

not_both : (c : ℤ) → int_lt c (pos 0) ≡ true → int_lt (pos 0) c ≡ true → ⊥
not_both (pos n) l g = absurd (let below : n < 0 = grind (arith, nat_tests) in omega arith)
not_both (negsuc n) l g = absurd (false≢true g)

by_tests : (below above : Bool) (x : Entry) (up low all : List Entry) → (below ≡ true → above ≡ true → ⊥) → length all ≡ length up + length low
    → length (cond (not (is_eq (cond below Less (cond above Greater Equal)))) (x ∷ all) all) ≡ length (cond above (x ∷ up) up) + length (cond below (x ∷ low) low)
by_tests true true x up low all n e = absurd (n refl refl)
by_tests true false x up low all n e = omega arith
by_tests false true x up low all n e = omega arith
by_tests false false x up low all n e = e

-- the rows that have a term are its upper and its lower rows
having : (c : ℤ) (x : Entry) (up low all : List Entry) → length all ≡ length up + length low
    → length (cond (not (int_eq c (pos 0))) (x ∷ all) all) ≡ length (cond (int_lt (pos 0) c) (x ∷ up) up) + length (cond (int_lt c (pos 0)) (x ∷ low) low)
having c x up low all e = by_tests (int_lt c (pos 0)) (int_lt (pos 0) c) x up low all (not_both c) e

rows_with : (entries : List Entry) (t : ℕ) → length (filter (has_term t) entries) ≡ length (filter (is_upper t) entries) + length (filter (is_lower t) entries)
rows_with [] t = refl
rows_with (e ∷ entries) t = having (coefficient_of e.row.form t) e (filter (is_upper t) entries) (filter (is_lower t) entries) (filter (has_term t) entries) (rows_with entries t)

none_passes : (p : Entry → Bool) (xs : List Entry) → length (filter p xs) ≡ 0 → list_any p xs ≡ false
none_passes p [] e = refl
none_passes p (x ∷ xs) e = passes_not (p x) (none_passes p xs) e
  where
    passes_not : (b : Bool) → (length (filter p xs) ≡ 0 → list_any p xs ≡ false) → length (cond b (x ∷ filter p xs) (filter p xs)) ≡ 0 → (b || list_any p xs) ≡ false
    passes_not true rest e = absurd (omega arith)
    passes_not false rest e = rest e

some_passes : (p : Entry → Bool) (xs : List Entry) → 0 < length (filter p xs) → list_any p xs ≡ true
some_passes p [] l = absurd (omega arith)
some_passes p (x ∷ xs) l = passes (p x) (some_passes p xs) l
  where
    passes : (b : Bool) → (0 < length (filter p xs) → list_any p xs ≡ true) → 0 < length (cond b (x ∷ filter p xs) (filter p xs)) → (b || list_any p xs) ≡ true
    passes true rest l = refl
    passes false rest l = rest l

any_has : (p : Entry → Bool) (xs : List Entry) → list_any p xs ≡ true → 0 < length (filter p xs)
any_has p [] e = absurd (false≢true e)
any_has p (x ∷ xs) e = has (p x) (any_has p xs) e
  where
    has : (b : Bool) → (list_any p xs ≡ true → 0 < length (filter p xs)) → (b || list_any p xs) ≡ true → 0 < length (cond b (x ∷ filter p xs) (filter p xs))
    has true rest e = omega arith
    has false rest e = rest e

past_end : (counts : List Count) (t : ℕ) → length counts ≤ t → rows_of (count_at counts t) ≡ 0
past_end counts t l = ap rows_of (get_or_past counts t no_rows l)

pub nothing_next : (entries : List Entry) (counts : List Count) → HasCounts entries counts
    → ((t : ℕ) → t < length counts → rows_of (count_at counts t) ≡ 0) → (t : ℕ) → occurs entries t ≡ false
nothing_next entries counts has none t =
    let zero_here : rows_of (count_at counts t) ≡ 0 = elim (cases_lt t (length counts)) [ inl l ↦ none t l | inr l ↦ past_end counts t l ] in
    none_passes (has_term t) entries (omega (arith, rows_with entries t, has.uppers t, has.lowers t))

same_pairs : (entries : List Entry) (counts : List Count) (t : ℕ) → HasCounts entries counts → pairs_in (count_at counts t) ≡ pairs_of entries t
same_pairs entries counts t has =
    ap (λ (n : ℕ). n * (count_at counts t).lowers) (has.uppers t) ∙ ap (λ (n : ℕ). length (filter (is_upper t) entries) * n) (has.lowers t)

pub something_next : (entries : List Entry) (counts : List Count) (choice : Choice) → HasCounts entries counts
    → IsLeast counts (length counts) choice → IsNext entries choice.term
something_next entries counts choice has least = record {
  there = some_passes (has_term choice.term) entries (omega (arith, rows_with entries choice.term, has.uppers choice.term, has.lowers choice.term, least.there));
  fewest = λ other o.
      let rows : 0 < rows_of (count_at counts other) = omega (arith, any_has (has_term other) entries o, rows_with entries other, has.uppers other, has.lowers other) in
      let within : other < length counts = elim (cases_lt other (length counts)) [ inl l ↦ l | inr l ↦ absurd (omega (arith, past_end counts other l)) ] in
      let own : choice.pairs ≡ pairs_of entries choice.term = least.pairs ∙ same_pairs entries counts choice.term has in
      let others : pairs_in (count_at counts other) ≡ pairs_of entries other = same_pairs entries counts other has in
      elim (least.fewest other within rows) [
        | inl l ↦ inl (omega arith)
        | inr e ↦ inr (sym own ∙ e.0 ∙ others, e.1)
      ];
}

pub next_found : (entries : List Entry) (counts : List Count) (best : Option Choice) → HasCounts entries counts → IsBest counts (length counts) best
    → MatchOption best ((t : ℕ) → occurs entries t ≡ false) (λ choice. IsNext entries choice.term)
next_found entries counts None has best = nothing_next entries counts has best
next_found entries counts (Some choice) has best = something_next entries counts choice has best
